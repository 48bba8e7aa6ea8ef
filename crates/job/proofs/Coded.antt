-- The row of a code and its fields.
use Rattle.std.proofs.Common.{◌≡◌, ℕ, zero, suc, ◌+◌, ◌-◌, ◌<◌, Bool, true, false, cond, List, [], ◌∷◌, length, get_or, Some, None, refl, ap, ◌∙◌, arith}
use Rattle.std.proofs.lemmas.Bool.{and_parts, leb-true}
use Rattle.calls.specs.declared.records.Define.{Define}
use Rattle.mtl.specs.declared.row.Row.{Row}
use Rattle.mtl.specs.declared.row.Row.TheVariants.{Signal}
use Rattle.mtl.specs.Operators.{operator, operators}
use Rattle.mtl.specs.declared.operator.Extra.TheVariants.{Nothing}
use Rattle.mtl.specs.declared.operator.Shape.TheVariants.{Free}
use Rattle.mtl.specs.Rows.{code, operator_of}
use Rattle.mtl.specs.Fields.{is_code, rows_with, row_of}
use Rattle.job.specs.Calls.{row_with, operator_at}

-- the codes of the rows count up from n
abbrev Counted : ℕ → List Row → Type 0
Counted n [] = Unit {0}
Counted n (r ∷ rs) = (code r ≡ n) × Counted (suc n) rs

code_at : (n : ℕ) (rs : List Row) (i : ℕ) (d : Row) → Counted n rs → i < length rs → code (get_or rs i d) ≡ n + i
code_at n [] i d h lt = let z : ⊥ = omega arith in absurd z
code_at n (r ∷ rs) zero d h lt = h.0 ∙ omega arith
code_at n (r ∷ rs) (suc i) d h lt = code_at (suc n) rs i d h.1 (omega arith) ∙ omega arith

counted : (a b t : ℕ) → Counted 1 (rows_with a b t)
counted a b t = (refl, (refl, (refl, (refl, (refl, (refl, (refl, (refl, (refl, (refl, (refl, (refl, (refl, (refl, (refl, (refl, (refl, tt)))))))))))))))))

-- a row that was found by its fields
pub record Coded (d : Define) (r : Row) : Type 0 where
  pub coded : is_code d.code ≡ true
  pub row : r ≡ row_with d
  pub operator : operator_of r ≡ operator_at d.code

code_with : (d : Define) → is_code d.code ≡ true → code (row_with d) ≡ d.code
code_with d e =
    let ends = and_parts _ _ e in
    let low = leb-true 1 d.code ends.0 in
    let high = leb-true d.code 17 ends.1 in
    code_at 1 (rows_with d.a d.b d.t) (d.code - 1) (Signal 0) (counted d.a d.b d.t) (omega arith) ∙ omega arith

from_cond : (b : Bool) (r s : Row) → Some r ≡ cond b (Some s) None → (b ≡ true) × (r ≡ s)
from_cond true r s e = (refl, cc)
from_cond false r s e = let z : ◌≡◌ {A = ℕ} 0 1 = cc in let n : ⊥ = omega arith in absurd n

pub coded : (d : Define) (r : Row) → Some r ≡ row_of d.code d.a d.b d.t → Coded d r
coded d r e =
    let both = from_cond (is_code d.code) r (row_with d) e in
    record {
      coded = both.0;
      row = both.1;
      operator = ap operator_of both.1 ∙ ap (λ n. get_or operators (n - 1) (operator 0 0 false Nothing Free)) (code_with d both.0);
    }
