-- The seventeen operators in the order of their codes, 1 to 17.
use Rattle.std.specs.Prelude.{ℕ, Bool, true, false, List, [], ◌∷◌}
use Rattle.mtl.specs.declared.operator.Operator.{Operator}
use Rattle.mtl.specs.declared.operator.Extra.{Extra}
use Rattle.mtl.specs.declared.operator.Extra.TheVariants.{Nothing, Seen, Ahead}
use Rattle.mtl.specs.declared.operator.Shape.{Shape}
use Rattle.mtl.specs.declared.operator.Shape.TheVariants.{Free, Same, Both, Either, Upto, Hold, Any, All}

-- code, operands, whether it has a distance, extra variables, clause shape
abbrev pub operator : ℕ → ℕ → Bool → Extra → Shape → Operator
operator c n t e s = record { code = c; operands = n; timed = t; extra = e; shape = s }

abbrev pub operators : List Operator
operators =
    operator 1 0 false Nothing Free
    ∷ operator 2 1 false Nothing Same
    ∷ operator 3 2 false Nothing Both
    ∷ operator 4 2 false Nothing Either
    ∷ operator 5 1 false Nothing Same
    ∷ operator 6 2 false Seen Upto
    ∷ operator 7 2 false Seen Hold
    ∷ operator 8 1 true Ahead Same
    ∷ operator 9 1 true Ahead Any
    ∷ operator 10 1 true Ahead All
    ∷ operator 11 1 false Nothing Same
    ∷ operator 12 1 false Nothing Same
    ∷ operator 13 2 false Nothing Upto
    ∷ operator 14 2 false Nothing Hold
    ∷ operator 15 1 true Nothing Same
    ∷ operator 16 1 true Nothing Any
    ∷ operator 17 1 true Nothing All
    ∷ []
