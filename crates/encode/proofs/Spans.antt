-- Spans of literals, literal by literal.
use Rattle.std.proofs.Common.{◌≡◌, ℕ, zero, suc, ◌+◌, ◌-◌, min, [], ◌∷◌, ◌++◌, sym, refl, ap, ◌∙◌, add-zero, add-suc, suc-add, arith}
use native.Mathlib.Nat.{sub-zero, suc-sub-suc}
use Rattle.mtl.specs.Shapes.{Lits, span, down}

pub span_more : (f : Lits) (i n : ℕ) → span f i (n + 1) ≡ span f i n ++ (f (i + n) ∷ [])
span_more f i zero = rw add-zero
span_more f i (suc n) = rw (suc-add n 1, add-suc i n) (ap (λ l. f i ∷ l) (rw (suc-add i n) at (span_more f (suc i) n)))

pub span_from : (f : Lits) (i c n : ℕ) → span (λ j. f (i + j)) c n ≡ span f (i + c) n
span_from f i c zero = refl
span_from f i c (suc n) = ap (λ l. f (i + c) ∷ l) (rw add-suc at (span_from f i (suc c) n))

-- one step further, one instant earlier
span-later : (f : Lits) (i c n : ℕ) → span (λ j. f (suc i - j)) (suc c) n ≡ span (λ j. f (i - j)) c n
span-later f i c zero = refl
span-later f i c (suc n) = rw suc-sub-suc (ap (λ l. f (i - c) ∷ l) (span-later f i (suc c) n))

pub down-span : (f : Lits) (i t : ℕ) → down f i t ≡ span (λ j. f (i - j)) 0 (suc (min t i))
down-span f i zero = let e : min 0 i ≡ 0 = omega arith in rw (sub-zero, e)
down-span f zero (suc t) = let e : min (suc t) 0 ≡ 0 = omega arith in rw e
down-span f (suc i) (suc t) =
    let e : min (suc t) (suc i) ≡ suc (min t i) = omega arith in
    rw (sub-zero, e) (ap (λ l. f (suc i) ∷ l) (down-span f i t ∙ sym (span-later f i 0 (suc (min t i)))))
