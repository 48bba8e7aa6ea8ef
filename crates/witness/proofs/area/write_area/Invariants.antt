use Rattle.std.proofs.Common.{◌≡◌, ◌+◌}
use Rattle.mtl.specs.Lists.{top}
use Rattle.evaluate.specs.Truths.{older}
use Rattle.witness.specs.Areas.{SameFrom, Bits}
use Rattle.witness.specs.Blocks.{Laid}
use Rattle.witness.proofs.area.write_area.Given as goal

abbrev pub invariant-loop-n : goal.invariant-loop-n
invariant-loop-n l =
    (l.at + 1 ≡ top l.lines.lasso.bound (older l.rows l.n))
    × Laid l.lines.lasso.bound l.lines.lasso.start l.lines.bytes.now l.area (older l.rows l.n)
    × Bits 0 l.at l.area
    × SameFrom l.at l.area l.fn.area
