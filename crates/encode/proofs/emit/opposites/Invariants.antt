use Rattle.std.proofs.Common.{◌≡◌, map, take}
use Rattle.cnf.specs.Clauses.{opposite}
use Rattle.bounded.specs.Items.{items}
use Rattle.encode.proofs.emit.opposites.Given as goal

abbrev pub invariant-loop-literal : goal.invariant-loop-literal
invariant-loop-literal l = items l.flipped ≡ map opposite (take l.literal-index l.literals)
