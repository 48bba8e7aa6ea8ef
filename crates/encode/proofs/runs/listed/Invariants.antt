use Rattle.std.proofs.Common.{◌≡◌, length}
use Rattle.bounded.specs.Items.{items}
use Rattle.mtl.specs.Shapes.{Lits, span}
use Rattle.encode.specs.Parts.{Gives}
use Rattle.encode.proofs.runs.listed.Given as goal

abbrev pub invariant-loop-j : goal.invariant-loop-j
invariant-loop-j g l =
    (length (items l.literals) ≡ l.j)
    × ((f : Lits) → Gives (goal.F-post g l.literal_at) l.count f → items l.literals ≡ span f 0 l.j)
