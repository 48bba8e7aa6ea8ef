-- The parts of an assignment, and what each says of a run over the lines of a work area.
use Rattle.std.specs.Prelude.{◌≡◌, ℕ, ◌+◌, ◌-◌, ◌≤◌, Bool, true, false, List, [], ◌∷◌, length}
use Rattle.mtl.specs.declared.row.Row.{Row}
use Rattle.mtl.specs.declared.operator.Extra.{Extra}
use Rattle.mtl.specs.declared.operator.Extra.TheVariants.{Nothing, Seen, Ahead}
use Rattle.mtl.specs.declared.operator.Shape.{Shape}
use Rattle.mtl.specs.declared.operator.Shape.TheVariants.{Free, Same, Both, Either, Upto, Hold, Any, All}
use Rattle.mtl.specs.Formula.{Course}
use Rattle.mtl.specs.Rows.{first, second, distance, operator_of}
use Rattle.mtl.specs.Lists.{top}
use Rattle.evaluate.specs.Bits.{At, Round}
use Rattle.evaluate.specs.Lines.{line}
use Rattle.witness.specs.Areas.{Tell}

-- what E of until and release looks for
abbrev pub sought : Shape → Bool
sought Free = true
sought Same = true
sought Both = true
sought Either = true
sought Upto = true
sought Hold = false
sought Any = true
sought All = true

-- a line has the truth s at an instant of the loop up to i
abbrev pub SeenUpto : ℕ → ℕ → Bool → List ℕ → Course
SeenUpto k l s v i = (j : ℕ) × (l ≤ j) × (j ≤ i) × Round k l s v j

-- the extra variables of a row from byte n on, where a and b are the lines of its operands and t is its distance
abbrev pub ExtraTold : ℕ → ℕ → List ℕ → ℕ → List ℕ → List ℕ → ℕ → Shape → Extra → Type 0
ExtraTold k l area n a b t s Nothing = Unit {0}
ExtraTold k l area n a b t s Seen = Tell area n (k + 1) (SeenUpto k l (sought s) b)
ExtraTold k l area n a b t s Ahead = Tell area n t (λ i. Round k l true a (k + 1 + i))

abbrev pub ExtrasTold : ℕ → ℕ → List ℕ → List ℕ → ℕ → Row → Type 0
ExtrasTold k l work area n r =
    ExtraTold k l area n (line k work (first r)) (line k work (second r)) (distance r) (operator_of r).shape (operator_of r).extra

-- the block of row n, from byte a on
abbrev pub Block : ℕ → ℕ → List ℕ → List ℕ → ℕ → ℕ → Row → Type 0
Block k l work area a n r = Tell area a (k + 1) (At true (line k work n)) × ExtrasTold k l work area (a + (k + 1)) r

-- the variables of begin, and the block of each row, the newest row first
abbrev pub Laid : ℕ → ℕ → List ℕ → List ℕ → List Row → Type 0
Laid k l work area [] = Tell area 0 (k + 1) (λ i. l ≡ i) × Tell area (k + 1) (k + 1) (λ i. l ≤ i)
Laid k l work area (r ∷ rs) = Laid k l work area rs × Block k l work area (top k rs - 1) (length rs) r
