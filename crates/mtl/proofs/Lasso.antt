-- The instants of a run with a loop.
use Rattle.std.proofs.Common.{◌≡◌, ℕ, zero, suc, ◌+◌, ◌-◌, ◌*◌, ◌%◌, ◌<◌, ◌≤◌, leb, sym, ap, ◌∙◌, ⊎_elim, add-zero, add-suc, mod-lt, mod-eq_of_lt, arith}
use native.Mathlib.Nat.{suc-mod, mod_self, add-mul-mod_self_left}
use Rattle.std.proofs.lemmas.Bool.{cond-true, cond-false, le-leb, lt-leb, cases_lt}
use Rattle.mtl.specs.Lists.{period}
use Rattle.mtl.specs.Runs.{lasso}

module _ (k l : ℕ) (in' : l ≤ k) where
  pub lasso_low : (i : ℕ) → i ≤ k → lasso k l i ≡ i
  lasso_low i h = cond-true (leb i k) i (l + (i - l) % period k l) (le-leb i k h)

  pub lasso_high : (i : ℕ) → k < i → lasso k l i ≡ l + (i - l) % period k l
  lasso_high i h = cond-false (leb i k) i (l + (i - l) % period k l) (lt-leb i k h)

  pub lasso_loop : (i : ℕ) → l ≤ i → lasso k l i ≡ l + (i - l) % period k l
  lasso_loop i h = ⊎_elim up (λ c. low (omega arith)) (cases_lt k i)
    where
      up : k < i → lasso k l i ≡ l + (i - l) % period k l
      up c = lasso_high i c

      low : i ≤ k → lasso k l i ≡ l + (i - l) % period k l
      low c = let e : i - l < period k l = omega arith in lasso_low i c ∙ rw (mod-eq_of_lt e) (omega arith)

  mod_in : (n : ℕ) → n % period k l < period k l
  mod_in n = mod-lt n (omega arith)

  pub lasso_le : (i : ℕ) → lasso k l i ≤ k
  lasso_le i = ⊎_elim up low (cases_lt k i)
    where
      up : k < i → lasso k l i ≤ k
      up c = rw (lasso_high i c) (omega (arith, mod_in (i - l)))

      low : i ≤ k → lasso k l i ≤ k
      low c = rw (lasso_low i c) c

  pub lasso_ge : (i : ℕ) → l ≤ i → l ≤ lasso k l i
  lasso_ge i h = rw (lasso_loop i h) (omega arith)

  -- the instant after i: one more, or from k back to l
  suc_loop : (i : ℕ) → l ≤ i → lasso k l (suc i) ≡ l + suc ((i - l) % period k l) % period k l
  suc_loop i h =
      let e : suc i - l ≡ suc (i - l) = omega arith in
      lasso_loop (suc i) (omega arith) ∙ rw (e, suc-mod (i - l) (period k l))

  pub suc_below : (i : ℕ) → lasso k l i < k → lasso k l (suc i) ≡ suc (lasso k l i)
  suc_below i h = ⊎_elim low up (cases_lt i l)
    where
      low : i < l → lasso k l (suc i) ≡ suc (lasso k l i)
      low c = lasso_low (suc i) (omega arith) ∙ ap suc (sym (lasso_low i (omega arith)))

      up : l ≤ i → lasso k l (suc i) ≡ suc (lasso k l i)
      up c =
          let e = lasso_loop i c in
          let s : suc ((i - l) % period k l) < period k l = omega arith in
          suc_loop i c ∙ rw (mod-eq_of_lt s, e) (omega arith)

  pub suc_at : (i : ℕ) → lasso k l i ≡ k → lasso k l (suc i) ≡ l
  suc_at i h = ⊎_elim low up (cases_lt i l)
    where
      low : i < l → lasso k l (suc i) ≡ l
      low c = let e = lasso_low i (omega arith) in absurd (omega arith)

      up : l ≤ i → lasso k l (suc i) ≡ l
      up c =
          let e = lasso_loop i c in
          let s : suc ((i - l) % period k l) ≡ period k l = omega arith in
          suc_loop i c ∙ rw (s, mod_self (period k l)) (omega arith)

  -- instants with one place in the run go on alike
  pub suc_like : (i j : ℕ) → lasso k l i ≡ lasso k l j → lasso k l (suc i) ≡ lasso k l (suc j)
  suc_like i j e = ⊎_elim below at (cases_lt (lasso k l i) k)
    where
      below : lasso k l i < k → lasso k l (suc i) ≡ lasso k l (suc j)
      below c = suc_below i c ∙ ap suc e ∙ sym (suc_below j (omega arith))

      at : k ≤ lasso k l i → lasso k l (suc i) ≡ lasso k l (suc j)
      at c =
          let b = lasso_le i in
          let d : lasso k l i ≡ k = omega arith in
          suc_at i d ∙ sym (suc_at j (omega arith))

  pub lasso_twice : (i : ℕ) → lasso k l (lasso k l i) ≡ lasso k l i
  lasso_twice i = lasso_low (lasso k l i) (lasso_le i)

  pub add_like : (d i j : ℕ) → lasso k l i ≡ lasso k l j → lasso k l (i + d) ≡ lasso k l (j + d)
  add_like zero i j e = rw (add-zero i, add-zero j) e
  add_like (suc d) i j e = rw (add-suc i d, add-suc j d) (suc_like (i + d) (j + d) (add_like d i j e))

  pub lasso-first : lasso k l (suc k) ≡ l
  lasso-first = suc_at k (lasso_low k (omega arith))

  -- every instant of the loop comes again, as late as one likes
  pub again : (j n : ℕ) → l ≤ j → j ≤ k → lasso k l (j + period k l * n) ≡ j
  again j n h c =
      let e : j + period k l * n - l ≡ (j - l) + period k l * n = omega arith in
      let s : j - l < period k l = omega arith in
      lasso_loop (j + period k l * n) (omega arith) ∙ rw (e, add-mul-mod_self_left (j - l) (period k l) n, mod-eq_of_lt s) (omega arith)

  pub again_late : (j n : ℕ) → n ≤ j + period k l * n
  again_late j n = omega arith
