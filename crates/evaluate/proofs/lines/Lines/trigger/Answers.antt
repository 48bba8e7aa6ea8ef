use Rattle.evaluate.specs.Truths.{cell}
use Rattle.evaluate.proofs.Duals.{trigger_dual}
use Rattle.evaluate.proofs.lines.Lines.trigger.Goals as goal

pub returns : goal.returns
returns c = let s = c.args.self.now in trigger_dual (cell s.lasso.bound s.bytes.now c.args.a) (cell s.lasso.bound s.bytes.now c.args.b) c.since.result c.args.i c.since.ensures
