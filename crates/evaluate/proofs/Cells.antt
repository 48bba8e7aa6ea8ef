-- The cells of a work area.
use Rattle.std.proofs.Common.{◌≡◌, ℕ, suc, ◌+◌, ◌*◌, ◌<◌, ◌≤◌, Bool, true, false, eqb, ◌≢◌, List, ◌++◌, length, set, Decides, refl, sym, ap, ◌∙◌, subst, ⊎_elim, mul-le-mul_right, suc-mul, arith, get_or-drop, get_or-set_other, get_or-take, get_or-set_same}
use Rattle.std.proofs.lemmas.Bool.{cases_order}
use Rattle.std.proofs.lemmas.Bool.Decides.{Decides-at}
use Rattle.std.proofs.lemmas.List.{get_or_append_left, get_or-append-add}
use Rattle.std.specs.Int.{from_bool}
use Rattle.mtl.specs.declared.row.Row.{Row}
use Rattle.mtl.specs.Formula.{Course}
use Rattle.mtl.specs.Runs.{lasso}
use Rattle.mtl.proofs.Lasso.{lasso_le}
use Rattle.evaluate.specs.Bits.{bit}
use Rattle.evaluate.specs.Truths.{cell, Known}

pub cell_is : (k : ℕ) (work : List ℕ) (m j : ℕ) → j ≤ k → cell k work m j ≡ bit work (m * (k + 1) + j)
cell_is k work m j h = let c : j < k + 1 = omega arith in rw (get_or-take, get_or-drop)

-- a line ends where the lines up to it end
pub within : (k n h : ℕ) → n < h → n * (k + 1) + (k + 1) ≤ h * (k + 1)
within k n h c =
    let p : suc n ≤ h = omega arith in
    omega (arith, mul-le-mul_right (k + 1) p, suc-mul n (k + 1))

-- a work area that is split before line n
module _ (k n : ℕ) (xs ys : List ℕ) (len : length xs ≡ n * (k + 1)) where
  cell_earlier : (m j : ℕ) → m < n → j ≤ k → cell k (xs ++ ys) m j ≡ cell k xs m j
  cell_earlier m j c h =
      let w = within k m n c in
      cell_is k (xs ++ ys) m j h ∙ ap (λ x. eqb x 1) (get_or_append_left xs ys 0 (m * (k + 1) + j) (omega arith)) ∙ sym (cell_is k xs m j h)

  pub cell_later : (j : ℕ) → j ≤ k → cell k (xs ++ ys) n j ≡ bit ys j
  cell_later j h = cell_is k (xs ++ ys) n j h ∙ ap (λ i. bit (xs ++ ys) (i + j)) (sym len) ∙ ap (λ x. eqb x 1) (get_or-append-add xs ys j 0)

  module _ (l : ℕ) (in' : l ≤ k) (letters : List ℕ) (rs : List Row) where
    pub known_front : Known k l letters rs (xs ++ ys) n → Known k l letters rs xs n
    known_front h m c i = Decides-at (cell k xs m (lasso k l i)) (cell k (xs ++ ys) m (lasso k l i)) (sym (cell_earlier m (lasso k l i) c (lasso_le k l in' i))) (h m c i)

    pub known_whole : Known k l letters rs xs n → Known k l letters rs (xs ++ ys) n
    known_whole h m c i = Decides-at (cell k (xs ++ ys) m (lasso k l i)) (cell k xs m (lasso k l i)) (cell_earlier m (lasso k l i) c (lasso_le k l in' i)) (h m c i)

-- a truth as a byte
pub bit_of : (v : Bool) → eqb (from_bool v) 1 ≡ v
bit_of true = refl
bit_of false = refl

pub bit_small : (v : Bool) → from_bool v ≤ 1
bit_small true = omega arith
bit_small false = omega arith

-- one byte more that tells the truth
pub bits_more : (xs : List ℕ) (S : Course) (i x : ℕ) → i < length xs → (v : Bool) → x ≡ from_bool v → Decides v (S i) → ((j : ℕ) → j < i → Decides (bit xs j) (S j)) → (j : ℕ) → j < i + 1 → Decides (bit (set xs i x) j) (S j)
bits_more xs S i x h v e d old j c = ⊎_elim here (λ g. ⊎_elim there (λ f. absurd (omega arith)) g) (cases_order j i)
  where
    here : j ≡ i → Decides (bit (set xs i x) j) (S j)
    here q = subst (λ m. Decides (bit (set xs i x) m) (S m)) (sym q) (Decides-at (bit (set xs i x) i) v (rw get_or-set_same (ap (λ y. eqb y 1) e ∙ bit_of v)) d)

    there : j < i → Decides (bit (set xs i x) j) (S j)
    there f = let ne : j ≢ i = λ q. omega arith in rw get_or-set_other (old j f)
