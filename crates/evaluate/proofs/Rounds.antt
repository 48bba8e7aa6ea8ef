-- What a run with a loop does not come to in as many instants as it has it never comes to.
use Rattle.std.proofs.Common.{ℕ, ◌+◌, ◌*◌, ◌<◌, ◌≤◌, sym, subst, ⊎_elim, arith}
use Rattle.std.proofs.lemmas.Bool.{cases_lt}
use Rattle.mtl.specs.Lists.{period}
use Rattle.mtl.specs.Runs.{lasso}
use Rattle.mtl.proofs.Lasso.{lasso_le, lasso_ge, lasso_twice, again}

pub never_round : (k l : ℕ) → l ≤ k → (i : ℕ) → i ≤ k → (S : ℕ → Type 0) → ((m : ℕ) → i ≤ m → m < i + (k + 1) → S (lasso k l m) → ⊥) → (j : ℕ) → i ≤ j → S (lasso k l j) → ⊥
never_round k l h i c S f j d e = ⊎_elim (λ b. f j d b e) far (cases_lt j (i + (k + 1)))
  where
    far : i + (k + 1) ≤ j → ⊥
    far b = ⊎_elim (λ g. once g) (λ g. f (lasso k l j) g (omega (arith, q)) (subst S (sym (lasso_twice k l h j)) e)) (cases_lt (lasso k l j) i)
      where
        p : l ≤ lasso k l j
        p = lasso_ge k l h j (omega arith)

        q : lasso k l j ≤ k
        q = lasso_le k l h j

        once : lasso k l j < i → ⊥
        once g = f (lasso k l j + period k l * 1) (omega (arith, p)) (omega (arith, p)) (subst S (sym (again k l h (lasso k l j) 1 p q)) e)
