use Rattle.mtl.specs.Runs.{lasso}
use Rattle.evaluate.specs.Truths.{cell}
use Rattle.evaluate.proofs.Duals.{release_dual}
use Rattle.evaluate.proofs.lines.Lines.release.Goals as goal

pub returns : goal.returns
returns c =
    let s = c.args.self.now in
    release_dual (λ i. cell s.lasso.bound s.bytes.now c.args.a (lasso s.lasso.bound s.lasso.start i)) (λ i. cell s.lasso.bound s.bytes.now c.args.b (lasso s.lasso.bound s.lasso.start i)) c.until.result c.args.i c.until.ensures
