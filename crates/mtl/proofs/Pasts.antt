-- Past values, and how a run whose loop closes on them goes round.
use Rattle.std.proofs.Common.{◌≡◌, ℕ, zero, suc, ◌+◌, ◌-◌, ◌%◌, ◌<◌, ◌≤◌, Bool, not, sym, refl, ap, ◌∙◌, subst, ⊎_elim, add-zero, add-suc, mod-eq_of_lt, arith}
use native.Mathlib.Nat.{mod-eq-sub-mod}
use Rattle.std.proofs.lemmas.Bool.{cases_lt}
use Rattle.mtl.specs.Lists.{period}
use Rattle.mtl.specs.Runs.{lasso}
use Rattle.mtl.proofs.Lasso.{lasso_low, lasso_le, lasso_twice, suc_below, suc_at}
use Rattle.mtl.proofs.Loops.{endless}

-- s at i - j, and v before 0
abbrev pub prior : (ℕ → Bool) → Bool → ℕ → ℕ → Bool
prior s v i zero = s i
prior s v zero (suc j) = v
prior s v (suc i) (suc j) = prior s v i j

pub prior_at : (s : ℕ → Bool) (v : Bool) (i j : ℕ) → j ≤ i → prior s v i j ≡ s (i - j)
prior_at s v i zero h = ap s (omega arith)
prior_at s v zero (suc j) h = absurd (omega arith)
prior_at s v (suc i) (suc j) h = prior_at s v i j (omega arith) ∙ ap s (omega arith)

pub prior_before : (s : ℕ → Bool) (v : Bool) (i j : ℕ) → i < j → prior s v i j ≡ v
prior_before s v i zero h = absurd (omega arith)
prior_before s v zero (suc j) h = refl
prior_before s v (suc i) (suc j) h = prior_before s v i j (omega arith)

pub prior_shift : (s : ℕ → Bool) (v : Bool) (d i j : ℕ) → prior s v (i + d) (j + d) ≡ prior s v i j
prior_shift s v zero i j = rw (add-zero i, add-zero j)
prior_shift s v (suc d) i j = rw (add-suc i d, add-suc j d) (prior_shift s v d i j)

pub prior_like : (s r : ℕ → Bool) (v : Bool) (i j : ℕ) → ((m : ℕ) → m ≤ i → s m ≡ r m) → prior s v i j ≡ prior r v i j
prior_like s r v i zero h = h i (omega arith)
prior_like s r v zero (suc j) h = refl
prior_like s r v (suc i) (suc j) h = prior_like s r v i j (λ m c. h m (omega arith))

pub prior_not : (s : ℕ → Bool) (v : Bool) (i j : ℕ) → prior (λ m. not (s m)) (not v) i j ≡ not (prior s v i j)
prior_not s v i zero = refl
prior_not s v zero (suc j) = refl
prior_not s v (suc i) (suc j) = prior_not s v i j

-- the loop closes on s, back to t instants before it
abbrev pub Closes : ℕ → ℕ → ℕ → Bool → (ℕ → Bool) → Type 0
Closes k l t v s = (j : ℕ) → j < t → prior s v l (suc j) ≡ s (k - j % period k l)

module _ (k l : ℕ) (in' : l ≤ k) (t : ℕ) (v : Bool) (s : ℕ → Bool) (closes : Closes k l t v s) where
  X : ℕ → Bool
  X i = s (lasso k l i)

  low : (i : ℕ) → i ≤ k → s i ≡ X i
  unfolding X
  low i h = ap s (sym (lasso_low k l in' i h))

  -- the same of the endless sequence
  goes : (j : ℕ) → j < t → prior X v l (suc j) ≡ X (k - j % period k l)
  goes j h = sym (prior_like s X v l (suc j) (λ m c. low m (omega arith))) ∙ closes j h ∙ low (k - j % period k l) (omega arith)

  wrap : (j : ℕ) → j < t → prior X v k j ≡ prior X v l (suc j)
  wrap j h = ⊎_elim near far (cases_lt j (period k l))
    where
      near : j < period k l → prior X v k j ≡ prior X v l (suc j)
      near c = let e = mod-eq_of_lt c in prior_at X v k j (omega arith) ∙ ap X (omega arith) ∙ sym (goes j h)

      far : period k l ≤ j → prior X v k j ≡ prior X v l (suc j)
      far c =
          let e = mod-eq-sub-mod c in
          let i' : l + (k - l) ≡ k = omega arith in
          let j' : suc (j - period k l) + (k - l) ≡ j = omega arith in
          let q : prior X v k j ≡ prior X v l (suc (j - period k l)) = subst (λ m. prior X v m j ≡ prior X v l (suc (j - period k l))) i' (subst (λ n. prior X v (l + (k - l)) n ≡ prior X v l (suc (j - period k l))) j' (prior_shift X v (k - l) l (suc (j - period k l)))) in
          q ∙ goes (j - period k l) (omega arith) ∙ ap X (omega arith) ∙ sym (goes j h)

  rounds : (i j : ℕ) → j ≤ t → prior X v i j ≡ prior X v (lasso k l i) j
  unfolding X
  rounds i zero h = ap s (sym (lasso_twice k l in' i))
  rounds zero (suc j) h = let e = lasso_low k l in' 0 (omega arith) in rw e
  rounds (suc i) (suc j) h = next (rounds i j (omega arith))
    where
      next : prior X v i j ≡ prior X v (lasso k l i) j → prior X v i j ≡ prior X v (lasso k l (suc i)) (suc j)
      next ih = ⊎_elim below at (cases_lt (lasso k l i) k)
        where
          below : lasso k l i < k → prior X v i j ≡ prior X v (lasso k l (suc i)) (suc j)
          below c = rw (suc_below k l in' i c) ih

          at : k ≤ lasso k l i → prior X v i j ≡ prior X v (lasso k l (suc i)) (suc j)
          at c =
              let g = lasso_le k l in' i in
              let e : lasso k l i ≡ k = omega arith in
              rw (suc_at k l in' i e) (ih ∙ (rw e (wrap j (omega arith))))

  pub prior_round : (i j : ℕ) → j ≤ t → prior (endless k l in' s) v i j ≡ prior (endless k l in' s) v (lasso k l i) j
  unfolding X
  prior_round i j h = rounds i j h
