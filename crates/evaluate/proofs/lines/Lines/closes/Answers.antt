use Rattle.std.proofs.Common.{◌-◌, ◌%◌, true, ◌↔◌, refl, arith, rules, tests}
use Rattle.mtl.specs.Lists.{period}
use Rattle.mtl.specs.Runs.{Back}
use Rattle.evaluate.specs.Bits.{At}
use Rattle.evaluate.specs.Lines.{line}
use Rattle.evaluate.proofs.Ranges.{all_in_range}
use Rattle.evaluate.proofs.lines.Lines.closes.Goals as goal

pub returns : goal.returns
returns c =
    let k = c.args.self.now.lasso.bound in
    let l = c.args.self.now.lasso.start in
    let s = line k c.args.self.now.bytes.now c.args.a in
    all_in_range _ _ _ _ (λ j. Back (At true s) c.args.v l j ↔ At true s (k - (j - 1) % period k l)) c.all.ensures.ran
    (λ x q h. search (rules, tests))
    (λ x q h. search (rules, tests))
    1 c.args.t refl (omega arith)
