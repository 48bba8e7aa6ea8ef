-- Operators and rows from the numbers that name them.
use Rattle.std.specs.Prelude.{◌≡◌, ℕ, ◌-◌, Bool, false, cond, ◌&&◌, List, [], ◌∷◌, Some, None, Option, nat_le, slice_index_or}
use Rattle.mtl.specs.declared.operator.Operator.{Operator}
use Rattle.mtl.specs.declared.operator.Extra.TheVariants.{Nothing}
use Rattle.mtl.specs.declared.operator.Shape.TheVariants.{Free}
use Rattle.mtl.specs.declared.row.Row.{Row}
use Rattle.mtl.specs.declared.row.Row.TheVariants.{Signal, Not, And, Or, Next, Until, Release, After, Within, Throughout, Previous, WeakPrevious, Since, Trigger, Ago, Lately, Steadily}
use Rattle.mtl.specs.Operators.{operator, operators}
use Rattle.mtl.specs.Rows.{code, first, second, distance}

-- the codes are 1 to 17
abbrev pub is_code : ℕ → Bool
is_code c = nat_le 1 c && nat_le c 17

abbrev pub operator_with : ℕ → Option Operator
operator_with c = cond (is_code c) (Some (slice_index_or operators (c - 1) (operator 0 0 false Nothing Free))) None

-- a row of each operator, in the order of the codes
abbrev pub rows_with : ℕ → ℕ → ℕ → List Row
rows_with a b t =
    Signal a
    ∷ Not a
    ∷ And a b
    ∷ Or a b
    ∷ Next a
    ∷ Until a b
    ∷ Release a b
    ∷ After a t
    ∷ Within a t
    ∷ Throughout a t
    ∷ Previous a
    ∷ WeakPrevious a
    ∷ Since a b
    ∷ Trigger a b
    ∷ Ago a t
    ∷ Lately a t
    ∷ Steadily a t
    ∷ []

abbrev pub row_of : ℕ → ℕ → ℕ → ℕ → Option Row
row_of c a b t = cond (is_code c) (Some (slice_index_or (rows_with a b t) (c - 1) (Signal 0))) None

-- a row is the one of its fields
abbrev pub Fields : Type 0
Fields = (r : Row) → row_of (code r) (first r) (second r) (distance r) ≡ Some r
