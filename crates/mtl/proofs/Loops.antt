-- Clauses that hold all round the loop, once its start is known.
use Rattle.std.proofs.Common.{◌≡◌, ℕ, suc, ◌<◌, ◌≤◌, Bool, true, ◌↔◌, Decides, sym, refl, ap, ◌∙◌, subst, ⊎_elim, arith}
use mathlib.Core.Logic.Iff
use Rattle.std.proofs.lemmas.Bool.{cases_lt, eqb-true, eq-eqb}
use Rattle.std.proofs.lemmas.Bool.Decides.{Decides-like}
use Rattle.cnf.specs.Clauses.{Clauses, truth, sat_all}
use Rattle.mtl.specs.Formula.{Course}
use Rattle.mtl.specs.Shapes.{when, each}
use Rattle.mtl.specs.Lists.{starts, around}
use Rattle.mtl.specs.Runs.{lasso, Marks}
use Rattle.mtl.proofs.Shapes.{append_law, each_law, when_law}
use Rattle.mtl.proofs.Lasso.{lasso_low, lasso_le, suc_below, suc_at, lasso-first, lasso_twice}

-- the tests x tell the truth of S, at every instant or at those below n
abbrev pub Truth : (ℕ → Bool) → Course → Type 0
Truth x S = (i : ℕ) → Decides (x i) (S i)

abbrev pub TruthTo : ℕ → (ℕ → Bool) → Course → Type 0
TruthTo n x S = (i : ℕ) → i < n → Decides (x i) (S i)

module _ (k l : ℕ) (in' : l ≤ k) where
  -- the sequence of 0 to k, all along the endless run
  abbrev pub endless : (ℕ → Bool) → ℕ → Bool
  endless x i = x (lasso k l i)

  -- S is alike at instants that have one place in the run
  abbrev pub Circular : Course → Type 0
  Circular S = (i j : ℕ) → lasso k l i ≡ lasso k l j → S i → S j

  pub circular : (x : ℕ → Bool) (S : Course) → Truth (endless x) S → Circular S
  circular x S t i j e s = (t j).0 (ap x (sym e) ∙ (t i).1 s)

  pub all_round : (x : ℕ → Bool) (S : Course) → Circular S → TruthTo (suc k) x S → Truth (endless x) S
  all_round x S c t i =
      let h = lasso_le k l in' i in
      Decides-like (x (lasso k l i)) (c (lasso k l i) i (lasso_twice k l in' i)) (c i (lasso k l i) (sym (lasso_twice k l in' i)))
      (t (lasso k l i) (omega arith))

  pub truth_low : (x : ℕ → Bool) (S : Course) → Truth (endless x) S → TruthTo (suc k) x S
  truth_low x S t i h = subst (λ m. Decides (x m) (S i)) (lasso_low k l in' i (omega arith)) (t i)

  -- what holds at 0 to k
  pub round_iff : (P : ℕ → Type 0) → ((i : ℕ) → i < suc k → P i) ↔ ((i : ℕ) → P (lasso k l i))
  round_iff P = (
    (λ h i. let c = lasso_le k l in' i in h (lasso k l i) (omega arith)),
    λ h i c. subst P (lasso_low k l in' i (omega arith)) (h i),
  )

  -- what holds of each instant and the next
  pub step_iff : (R : ℕ → ℕ → Type 0) → (((i : ℕ) → i < k → R i (suc i)) × R k l) ↔ ((i : ℕ) → R (lasso k l i) (lasso k l (suc i)))
  step_iff R = (to, from)
    where
      to : ((i : ℕ) → i < k → R i (suc i)) × R k l → (i : ℕ) → R (lasso k l i) (lasso k l (suc i))
      to h i = ⊎_elim below at (cases_lt (lasso k l i) k)
        where
          below : lasso k l i < k → R (lasso k l i) (lasso k l (suc i))
          below c = subst (λ n. R (lasso k l i) n) (sym (suc_below k l in' i c)) (h.0 (lasso k l i) c)

          at : k ≤ lasso k l i → R (lasso k l i) (lasso k l (suc i))
          at c =
              let g = lasso_le k l in' i in
              let e : lasso k l i ≡ k = omega arith in
              subst (λ n. R (lasso k l i) n) (sym (suc_at k l in' i e)) (subst (λ m. R m l) (sym e) h.1)

      from : ((i : ℕ) → R (lasso k l i) (lasso k l (suc i))) → ((i : ℕ) → i < k → R i (suc i)) × R k l
      from h = (
        (λ i c. subst (λ n. R i n) (lasso_low k l in' (suc i) c) (subst (λ m. R m (lasso k l (suc i))) (lasso_low k l in' i (omega arith)) (h i))),
        subst (λ n. R k n) (lasso-first k l in') (subst (λ m. R m (lasso k l (suc k))) (lasso_low k l in' k (omega arith)) (h k)),
      )

  module _ (α : ℕ → Bool) (marks : Marks k α l) where
    pub at_start : (P : ℕ → Type 0) → ((i : ℕ) → i < suc k → truth α (starts i) ≡ true → P i) ↔ P l
    at_start P = (
      (λ h. h l (omega arith) ((marks l in').0 ∙ eq-eqb l l refl)),
      λ p i c t. subst P (eqb-true l i (sym (marks i (omega arith)).0 ∙ t)) p,
    )

    pub start_law : (R : ℕ → Clauses) → (sat_all α (each 0 (suc k) (λ i. when (starts i) (R i))) ≡ true) ↔ (sat_all α (R l) ≡ true)
    start_law R = Iff.trans (each_law α (λ i. when (starts i) (R i)) (suc k)) (simp (when_law α) (at_start (λ i. sat_all α (R i) ≡ true)))

    pub round_law : (f : ℕ → Clauses) → (sat_all α (each 0 (suc k) f) ≡ true) ↔ ((i : ℕ) → sat_all α (f (lasso k l i)) ≡ true)
    round_law f = Iff.trans (each_law α f (suc k)) (round_iff (λ i. sat_all α (f i) ≡ true))

    pub around_law : (R : ℕ → ℕ → Clauses) → (sat_all α (around k R) ≡ true) ↔ ((i : ℕ) → sat_all α (R (lasso k l i) (lasso k l (suc i))) ≡ true)
    around_law R =
        simp (start_law (λ i. R k i), each_law α, append_law α) (step_iff (λ i n. sat_all α (R i n) ≡ true))
