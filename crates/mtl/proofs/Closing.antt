-- The clauses that close a past row, and those of ago, lately and steadily.
use Rattle.std.proofs.Common.{◌≡◌, ℕ, zero, suc, ◌+◌, ◌-◌, ◌%◌, ◌<◌, ◌≤◌, Bool, true, false, cond, not, leb, ◌↔◌, [], ◌∷◌, map, Decides, sym, refl, ◌∙◌, ⊎_elim, arith}
use mathlib.Core.Logic.Iff
use Rattle.std.proofs.lemmas.Bool.{cases_lt, le-leb, lt-leb}
use Rattle.cnf.specs.declared.clause.Literal.{Literal}
use Rattle.cnf.specs.Clauses.{opposite, truth, sat, sat_all}
use Rattle.mtl.specs.Formula.{Course}
use Rattle.mtl.specs.Shapes.{same, given, Lits, down}
use Rattle.mtl.specs.Lists.{starts, period, closing}
use Rattle.mtl.specs.Runs.{Back, Closed, Marks}
use Rattle.mtl.proofs.Shapes.{each_law, when_law, same_law, unit_law, truth-given, truth-opposite, some}
use Rattle.mtl.proofs.Some.{some_like}
use Rattle.mtl.proofs.Loops.{TruthTo, at_start}
use Rattle.mtl.proofs.Pasts.{prior, prior_at, prior_before, Closes}

abbrev pub tests : (ℕ → Bool) → Lits → ℕ → Bool
tests α s i = truth α (s i)

-- x is y, or v where i is before j
pub back_law : (α : ℕ → Bool) (s : Lits) (v : Bool) (x : Literal) (i j : ℕ) → (sat_all α (cond (leb j i) (same x (s (i - j))) ((given v x ∷ []) ∷ [])) ≡ true) ↔ (truth α x ≡ prior (tests α s) v i j)
back_law α s v x i j = ⊎_elim before at (cases_lt i j)
  where
    before : i < j → (sat_all α (cond (leb j i) (same x (s (i - j))) ((given v x ∷ []) ∷ [])) ≡ true) ↔ (truth α x ≡ prior (tests α s) v i j)
    before c = rw (lt-leb j i c, prior_before (tests α s) v i j c) (Iff.trans (unit_law α (given v x)) (truth-given α v x))

    at : j ≤ i → (sat_all α (cond (leb j i) (same x (s (i - j))) ((given v x ∷ []) ∷ [])) ≡ true) ↔ (truth α x ≡ prior (tests α s) v i j)
    at c = rw (le-leb j i c, prior_at (tests α s) v i j c) (same_law α x (s (i - j)))

pub close_law : (α : ℕ → Bool) (s : Lits) (v : Bool) (x : Literal) (i j : ℕ) → (sat_all α (cond (leb j i) (same (s (i - j)) x) ((given v x ∷ []) ∷ [])) ≡ true) ↔ (prior (tests α s) v i j ≡ truth α x)
close_law α s v x i j = ⊎_elim before at (cases_lt i j)
  where
    turn : {A : Type 0} {a b : A} → (a ≡ b) ↔ (b ≡ a)
    turn = (sym, sym)

    before : i < j → (sat_all α (cond (leb j i) (same (s (i - j)) x) ((given v x ∷ []) ∷ [])) ≡ true) ↔ (prior (tests α s) v i j ≡ truth α x)
    before c = rw (lt-leb j i c, prior_before (tests α s) v i j c) (Iff.trans (unit_law α (given v x)) (Iff.trans (truth-given α v x) turn))

    at : j ≤ i → (sat_all α (cond (leb j i) (same (s (i - j)) x) ((given v x ∷ []) ∷ [])) ≡ true) ↔ (prior (tests α s) v i j ≡ truth α x)
    at c = rw (le-leb j i c, prior_at (tests α s) v i j c) (same_law α (s (i - j)) x)

-- equal tests, equal truths
pub alike : (b c : Bool) → (b ≡ true → c ≡ true) → (c ≡ true → b ≡ true) → b ≡ c
alike true c f g = sym (f refl)
alike false true f g = g refl
alike false false f g = refl

pub eq_iff : (b c : Bool) (B C : Type 0) → Decides b B → Decides c C → (b ≡ c) ↔ (B ↔ C)
eq_iff b c B C d e = ((λ q. ((λ x. e.0 (sym q ∙ d.1 x)), λ x. d.0 (q ∙ e.1 x))), λ q. alike b c (λ x. e.1 (q.0 (d.0 x))) (λ x. d.1 (q.1 (e.0 x))))

pub back_decides : (s : ℕ → Bool) (S : Course) (v : Bool) (i j : ℕ) → ((m : ℕ) → m ≤ i → Decides (s m) (S m)) → Decides (prior s v i j) (Back S v i j)
back_decides s S v i j t = ⊎_elim before at (cases_lt i j)
  where
    before : i < j → Decides (prior s v i j) (Back S v i j)
    before c = rw (lt-leb j i c, prior_before s v i j c) ((λ e. e), λ e. e)

    at : j ≤ i → Decides (prior s v i j) (Back S v i j)
    at c = rw (le-leb j i c, prior_at s v i j c) (t (i - j) (omega arith))

module _ (k l : ℕ) (in' : l ≤ k) where
  pub closed_iff : (t : ℕ) (v : Bool) (s : ℕ → Bool) (S : Course) → TruthTo (suc k) s S → Closes k l t v s ↔ Closed k l t v S
  closed_iff t v s S h = (to, λ c j b. (one j).1 (let e : suc j - 1 ≡ j = omega arith in rw e at (c (suc j) (omega arith) b)))
    where
      one : (j : ℕ) → (prior s v l (suc j) ≡ s (k - j % period k l)) ↔ (Back S v l (suc j) ↔ S (k - j % period k l))
      one j =
          eq_iff (prior s v l (suc j)) (s (k - j % period k l)) (Back S v l (suc j)) (S (k - j % period k l))
          (back_decides s S v l (suc j) (λ m b. h m (omega arith))) (h (k - j % period k l) (omega arith))

      to : Closes k l t v s → Closed k l t v S
      to c zero o b = absurd (omega arith)
      to c (suc j) o b = let e : suc j - 1 ≡ j = omega arith in rw e ((one j).0 (c j b))

  module _ (α : ℕ → Bool) (marks : Marks k α l) where
    pub closing_law : (t : ℕ) (v : Bool) (s : Lits) → (sat_all α (closing k t v s) ≡ true) ↔ Closes k l t v (tests α s)
    closing_law t v s =
        Iff.trans
        (simp (each_law α, when_law α, close_law α s v) Iff.rfl)
        (Iff.trans swap (at_start k l in' α marks (λ i. (j : ℕ) → j < t → prior (tests α s) v i (suc j) ≡ tests α s (k - j % period k i))))
      where
        swap : ((i : ℕ) → i < suc k → (j : ℕ) → j < t → truth α (starts i) ≡ true → prior (tests α s) v i (suc j) ≡ tests α s (k - j % period k i)) ↔ ((i : ℕ) → i < suc k → truth α (starts i) ≡ true → (j : ℕ) → j < t → prior (tests α s) v i (suc j) ≡ tests α s (k - j % period k i))
        swap = ((λ h i c m j b. h i c j b m), λ h i c j b m. h i c m j b)

-- one of the last t + 1 values
some_none : (i n : ℕ) → some (λ _. false) i n ≡ false
some_none i zero = refl
some_none i (suc n) = some_none (suc i) n

some_prior : (a : ℕ → Bool) (i t : ℕ) → some (prior a false (suc i)) 1 t ≡ some (prior a false i) 0 t
some_prior a i t = some_like (prior a false (suc i)) (prior a false i) t 1 0 (λ d b. let e : 1 + d ≡ suc d = omega arith in let e' : 0 + d ≡ d = omega arith in rw (e, e'))

some_early : (a : ℕ → Bool) (t : ℕ) → some (prior a false 0) 1 t ≡ false
some_early a t = some_like (prior a false 0) (λ _. false) t 1 1 (λ d b. let e : 1 + d ≡ suc d = omega arith in rw e) ∙ some_none 1 t

pub sat-down : (α : ℕ → Bool) (a : Lits) (i t : ℕ) → sat α (down a i t) ≡ some (prior (tests α a) false i) 0 (suc t)
sat-down α a i zero = refl
sat-down α a zero (suc t) = rw (some_early (tests α a) (suc t))
sat-down α a (suc i) (suc t) = rw (some_prior (tests α a) i (suc t), sat-down α a i t)

pub sat_down_opposite : (α : ℕ → Bool) (a : Lits) (i t : ℕ) → sat α (map opposite (down a i t)) ≡ some (prior (λ m. not (tests α a m)) false i) 0 (suc t)
sat_down_opposite α a i zero = rw (truth-opposite α (a i))
sat_down_opposite α a zero (suc t) = rw (some_early (λ m. not (tests α a m)) (suc t), truth-opposite α (a zero))
sat_down_opposite α a (suc i) (suc t) = rw (some_prior (λ m. not (tests α a m)) i (suc t), sat_down_opposite α a i t, truth-opposite α (a (suc i)))
