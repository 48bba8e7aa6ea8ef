-- What the clauses of each row say, as equations between tests.
use Rattle.std.proofs.Common.{◌≡◌, ℕ, zero, suc, ◌+◌, ◌-◌, ◌%◌, ◌<◌, ◌≤◌, Bool, true, false, cond, not, ◌&&◌, ◌||◌, leb, ◌↔◌, [], ◌∷◌, ◌++◌, sym, ap, ◌∙◌, ⊎_elim, arith}
use mathlib.Core.Logic.Iff
use native.Mathlib.Nat.{add-mod_left}
use Rattle.std.proofs.lemmas.Bool.{cases_lt, le-leb, lt-leb, cond-true, cond-false}
use Rattle.cnf.specs.Clauses.{Clauses, opposite, truth, sat_all}
use Rattle.mtl.specs.Shapes.{same, both, either, upto, hold, any, all, given, when, each, Lits, span, down}
use Rattle.mtl.specs.Lists.{delayed, starts, inside, period, around, seen, beyond, ahead, closing}
use Rattle.mtl.specs.Runs.{lasso, Marks}
use Rattle.mtl.proofs.Shapes.{hold_dual, upto_none, append_law, each_law, same_law, both_law, either_law, upto_law, hold_law, any_law, all_law, pair_law, truth-opposite, some, sat-span, sat_span_opposite}
use Rattle.mtl.proofs.Some.{some_like}
use Rattle.mtl.proofs.Lasso.{lasso_low, lasso_high, lasso_le, add_like, lasso_twice}
use Rattle.mtl.proofs.Loops.{start_law, round_law, around_law}
use Rattle.mtl.proofs.Pasts.{prior, Closes}
use Rattle.mtl.proofs.Closing.{tests, back_law, closing_law, sat-down, sat_down_opposite}
use Rattle.mtl.proofs.Untils.{UntilEqs, nots}

pub join_law : (α : ℕ → Bool) (cs ds : Clauses) {C D : Type 0} → (sat_all α cs ≡ true) ↔ C → (sat_all α ds ≡ true) ↔ D → (sat_all α (cs ++ ds) ≡ true) ↔ (C × D)
join_law α cs ds p q = Iff.trans (append_law α cs ds) (Iff.and p q)

pub each_iff : {A B : ℕ → Type 0} → ((i : ℕ) → A i ↔ B i) → ((i : ℕ) → A i) ↔ ((i : ℕ) → B i)
each_iff h = ((λ f i. (h i).0 (f i)), λ f i. (h i).1 (f i))

pub below_iff : {A B : ℕ → Type 0} (n : ℕ) → ((i : ℕ) → i < n → A i ↔ B i) → ((i : ℕ) → i < n → A i) ↔ ((i : ℕ) → i < n → B i)
below_iff n h = ((λ f i c. (h i c).0 (f i c)), λ f i c. (h i c).1 (f i c))

-- an equation with another right side
pub right_iff : {A : Type 0} (x : A) {y z : A} → y ≡ z → (x ≡ y) ↔ (x ≡ z)
right_iff x e = ((λ p. p ∙ e), λ p. p ∙ sym e)

pub under_iff : {A B C : Type 0} → (C → A ↔ B) → (A × C) ↔ (B × C)
under_iff h = ((λ p. ((h p.1).0 p.0, p.1)), λ p. ((h p.1).1 p.0, p.1))

module _ (k l : ℕ) (in' : l ≤ k) (α : ℕ → Bool) (marks : Marks k α l) where
  abbrev pub folded : Lits → ℕ → Bool
  folded a i = truth α (a (lasso k l i))

  pub not_eqs : (x a : Lits) → (sat_all α (each 0 (suc k) (λ i. same (x i) (opposite (a i)))) ≡ true) ↔ ((i : ℕ) → folded x i ≡ not (folded a i))
  not_eqs x a =
      Iff.trans (round_law k l in' α marks (λ i. same (x i) (opposite (a i))))
      (each_iff (λ i. Iff.trans (same_law α (x (lasso k l i)) (opposite (a (lasso k l i)))) (right_iff (folded x i) (truth-opposite α (a (lasso k l i))))))

  pub and_eqs : (x a b : Lits) → (sat_all α (each 0 (suc k) (λ i. both (x i) (a i) (b i))) ≡ true) ↔ ((i : ℕ) → folded x i ≡ (folded a i && folded b i))
  and_eqs x a b = simp (round_law k l in' α marks, both_law α) Iff.rfl

  pub or_eqs : (x a b : Lits) → (sat_all α (each 0 (suc k) (λ i. either (x i) (a i) (b i))) ≡ true) ↔ ((i : ℕ) → folded x i ≡ (folded a i || folded b i))
  or_eqs x a b = simp (round_law k l in' α marks, either_law α) Iff.rfl

  pub next_eqs : (x a : Lits) → (sat_all α (around k (λ i n. same (x i) (a n))) ≡ true) ↔ ((i : ℕ) → folded x i ≡ folded a (suc i))
  next_eqs x a = simp (around_law k l in' α marks, same_law α) Iff.rfl

  -- E
  seen_eqs : (e b : Lits) → (sat_all α (seen k e b) ≡ true) ↔ ((tests α e 0 ≡ (leb l 0 && tests α b 0)) × ((i : ℕ) → i < k → tests α e (suc i) ≡ (tests α e i || (leb l (suc i) && tests α b (suc i)))))
  seen_eqs e b =
      join_law α (both (e 0) (inside k 0) (b 0)) (each 0 k (λ i. upto (e (suc i)) (e i) (inside k (suc i)) (b (suc i))))
      (Iff.trans (both_law α (e 0) (inside k 0) (b 0)) (right_iff (tests α e 0) (ap (λ n. n && tests α b 0) (marks 0 (omega arith)).1)))
      (Iff.trans (simp (each_law α, upto_law α) Iff.rfl)
      (below_iff k (λ i c. right_iff (tests α e (suc i)) (ap (λ n. tests α e i || (n && tests α b (suc i))) (marks (suc i) c).1))))

  pub until_eqs : (x a b e : Lits) → (sat_all α (around k (λ i n. upto (x i) (b i) (a i) (x n)) ++ seen k e b ++ ((opposite (x k) ∷ e k ∷ []) ∷ [])) ≡ true) ↔ UntilEqs k l (tests α x) (tests α a) (tests α b) (tests α e)
  until_eqs x a b e =
      Iff.trans
      (join_law α (around k (λ i n. upto (x i) (b i) (a i) (x n)) ++ seen k e b) ((opposite (x k) ∷ e k ∷ []) ∷ [])
      (join_law α (around k (λ i n. upto (x i) (b i) (a i) (x n))) (seen k e b) (simp (around_law k l in' α marks, upto_law α) Iff.rfl) (seen_eqs e b))
      (Iff.trans (pair_law α (opposite (x k)) (e k)) (rw (truth-opposite α (x k)) Iff.rfl))) (
        (λ h. record { expands = h.0.0; first = h.0.1.0; more = h.0.1.1; last = h.1 }),
        λ q. ((q.expands, (q.first, q.more)), q.last),
      )

  pub release_eqs : (x a b e : Lits) → (sat_all α (around k (λ i n. hold (x i) (b i) (a i) (x n)) ++ seen k e (λ i. opposite (b i)) ++ ((x k ∷ e k ∷ []) ∷ [])) ≡ true) ↔ UntilEqs k l (nots (tests α x)) (nots (tests α a)) (nots (tests α b)) (tests α e)
  release_eqs x a b e =
      Iff.trans
      (join_law α (around k (λ i n. hold (x i) (b i) (a i) (x n)) ++ seen k e (λ i. opposite (b i))) ((x k ∷ e k ∷ []) ∷ [])
      (join_law α (around k (λ i n. hold (x i) (b i) (a i) (x n))) (seen k e (λ i. opposite (b i)))
      (simp (around_law k l in' α marks, hold_law α) (each_iff (λ i. hold_dual (folded x i) (folded b i) (folded a i) (folded x (suc i)))))
      seen_not)
      (Iff.trans (pair_law α (x k) (e k)) (twice (tests α x k) (tests α e k)))) (
        (λ h. record { expands = h.0.0; first = h.0.1.0; more = h.0.1.1; last = h.1 }),
        λ q. ((q.expands, (q.first, q.more)), q.last),
      )
    where
      seen_not : (sat_all α (seen k e (λ i. opposite (b i))) ≡ true) ↔ ((tests α e 0 ≡ (leb l 0 && not (tests α b 0))) × ((i : ℕ) → i < k → tests α e (suc i) ≡ (tests α e i || (leb l (suc i) && not (tests α b (suc i))))))
      seen_not = Iff.trans (seen_eqs e (λ i. opposite (b i))) (simp (truth-opposite α) Iff.rfl)

      twice : (p q : Bool) → ((p || q) ≡ true) ↔ ((not (not p) || q) ≡ true)
      twice true q = Iff.rfl
      twice false q = Iff.rfl

  -- M
  lasso-beyond : (j : ℕ) → lasso k l (k + 1 + j) ≡ l + j % period k l
  lasso-beyond j =
      let e : k + 1 + j - l ≡ period k l + j = omega arith in
      lasso_high k l in' (k + 1 + j) (omega arith) ∙ rw (e, add-mod_left (period k l) j)

  pub beyond_eqs : (t : ℕ) (m a : Lits) → (sat_all α (beyond k t m a) ≡ true) ↔ ((j : ℕ) → j < t → tests α m j ≡ folded a (k + 1 + j))
  beyond_eqs t m a =
      Iff.trans (each_law α (λ j. each 0 (suc k) (λ i. when (starts i) (same (m j) (a (i + j % period k i))))) t)
      (below_iff t
      (λ j c. Iff.trans (start_law k l in' α marks (λ i. same (m j) (a (i + j % period k i))))
      (Iff.trans (same_law α (m j) (a (l + j % period k l))) (right_iff (tests α m j) (ap (λ n. truth α (a n)) (sym (lasso-beyond j)))))))

  ahead_at : (t : ℕ) (m a : Lits) → ((j : ℕ) → j < t → tests α m j ≡ folded a (k + 1 + j)) → (n : ℕ) → n < suc k + t → truth α (ahead k a m n) ≡ folded a n
  ahead_at t m a h n c = ⊎_elim up low (cases_lt k n)
    where
      up : k < n → truth α (ahead k a m n) ≡ folded a n
      up d =
          let e : k + 1 + (n - k - 1) ≡ n = omega arith in
          ap (truth α) (cond-false (leb n k) (a n) (m (n - k - 1)) (lt-leb n k d)) ∙ h (n - k - 1) (omega arith) ∙ ap (folded a) e

      low : n ≤ k → truth α (ahead k a m n) ≡ folded a n
      low d = ap (truth α) (cond-true (leb n k) (a n) (m (n - k - 1)) (le-leb n k d)) ∙ ap (λ i. truth α (a i)) (sym (lasso_low k l in' n d))

  ahead_folded : (t : ℕ) (m a : Lits) → ((j : ℕ) → j < t → tests α m j ≡ folded a (k + 1 + j)) → (i d : ℕ) → d < suc t → truth α (ahead k a m (lasso k l i + d)) ≡ folded a (i + d)
  ahead_folded t m a h i d c =
      let b = lasso_le k l in' i in
      ahead_at t m a h (lasso k l i + d) (omega arith) ∙ ap (λ n. truth α (a n)) (add_like k l in' d (lasso k l i) i (lasso_twice k l in' i))

  pub after_eqs : (t : ℕ) (x m a : Lits) → (sat_all α (each 0 (suc k) (λ i. same (x i) (ahead k a m (i + t))) ++ beyond k t m a) ≡ true) ↔ (((i : ℕ) → folded x i ≡ folded a (i + t)) × ((j : ℕ) → j < t → tests α m j ≡ folded a (k + 1 + j)))
  after_eqs t x m a =
      Iff.trans
      (join_law α (each 0 (suc k) (λ i. same (x i) (ahead k a m (i + t)))) (beyond k t m a) (simp (round_law k l in' α marks, same_law α) Iff.rfl) (beyond_eqs t m a))
      (under_iff (λ h. each_iff (λ i. right_iff (folded x i) (ahead_folded t m a h i t (omega arith)))))

  pub within_eqs : (t : ℕ) (x m a : Lits) → (sat_all α (each 0 (suc k) (λ i. any (x i) (span (ahead k a m) i (suc t))) ++ beyond k t m a) ≡ true) ↔ (((i : ℕ) → folded x i ≡ some (folded a) i (suc t)) × ((j : ℕ) → j < t → tests α m j ≡ folded a (k + 1 + j)))
  within_eqs t x m a =
      Iff.trans
      (join_law α (each 0 (suc k) (λ i. any (x i) (span (ahead k a m) i (suc t)))) (beyond k t m a)
      (Iff.trans (round_law k l in' α marks (λ i. any (x i) (span (ahead k a m) i (suc t)))) (each_iff (λ i. any_law α (x (lasso k l i)) (span (ahead k a m) (lasso k l i) (suc t)))))
      (beyond_eqs t m a))
      (under_iff (λ h. each_iff (λ i. right_iff (folded x i)
      (sat-span α (ahead k a m) (lasso k l i) (suc t) ∙ some_like (λ j. truth α (ahead k a m j)) (folded a) (suc t) (lasso k l i) i (λ d c. ahead_folded t m a h i d c)))))

  pub throughout_eqs : (t : ℕ) (x m a : Lits) → (sat_all α (each 0 (suc k) (λ i. all (x i) (span (ahead k a m) i (suc t))) ++ beyond k t m a) ≡ true) ↔ (((i : ℕ) → not (folded x i) ≡ some (nots (folded a)) i (suc t)) × ((j : ℕ) → j < t → tests α m j ≡ folded a (k + 1 + j)))
  throughout_eqs t x m a =
      Iff.trans
      (join_law α (each 0 (suc k) (λ i. all (x i) (span (ahead k a m) i (suc t)))) (beyond k t m a)
      (Iff.trans (round_law k l in' α marks (λ i. all (x i) (span (ahead k a m) i (suc t)))) (each_iff (λ i. all_law α (x (lasso k l i)) (span (ahead k a m) (lasso k l i) (suc t)))))
      (beyond_eqs t m a))
      (under_iff (λ h. each_iff (λ i. right_iff (not (folded x i))
      (sat_span_opposite α (ahead k a m) (lasso k l i) (suc t) ∙ some_like (λ j. not (truth α (ahead k a m j))) (nots (folded a)) (suc t) (lasso k l i) i (λ d c. ap not (ahead_folded t m a h i d c))))))

  -- the past
  pub ago_eqs : (t : ℕ) (v : Bool) (x a : Lits) → (sat_all α (delayed k t v x a ++ closing k t v a) ≡ true) ↔ (((i : ℕ) → i < suc k → tests α x i ≡ prior (tests α a) v i t) × Closes k l t v (tests α a))
  ago_eqs t v x a =
      join_law α (each 0 (suc k) (λ i. cond (leb t i) (same (x i) (a (i - t))) ((given v (x i) ∷ []) ∷ []))) (closing k t v a)
      (Iff.trans (each_law α (λ i. cond (leb t i) (same (x i) (a (i - t))) ((given v (x i) ∷ []) ∷ [])) (suc k)) (below_iff (suc k) (λ i c. back_law α a v (x i) i t)))
      (closing_law k l in' α marks t v a)

  pub lately_eqs : (t : ℕ) (x a : Lits) → (sat_all α (each 0 (suc k) (λ i. any (x i) (down a i t)) ++ closing k t false a) ≡ true) ↔ (((i : ℕ) → i < suc k → tests α x i ≡ some (prior (tests α a) false i) 0 (suc t)) × Closes k l t false (tests α a))
  lately_eqs t x a =
      join_law α (each 0 (suc k) (λ i. any (x i) (down a i t))) (closing k t false a)
      (Iff.trans (each_law α (λ i. any (x i) (down a i t)) (suc k)) (below_iff (suc k) (λ i c. Iff.trans (any_law α (x i) (down a i t)) (right_iff (tests α x i) (sat-down α a i t)))))
      (closing_law k l in' α marks t false a)

  pub steadily_eqs : (t : ℕ) (x a : Lits) → (sat_all α (each 0 (suc k) (λ i. all (x i) (down a i t)) ++ closing k t true a) ≡ true) ↔ (((i : ℕ) → i < suc k → not (tests α x i) ≡ some (prior (nots (tests α a)) false i) 0 (suc t)) × Closes k l t true (tests α a))
  steadily_eqs t x a =
      join_law α (each 0 (suc k) (λ i. all (x i) (down a i t))) (closing k t true a)
      (Iff.trans (each_law α (λ i. all (x i) (down a i t)) (suc k)) (below_iff (suc k) (λ i c. Iff.trans (all_law α (x i) (down a i t)) (right_iff (not (tests α x i)) (sat_down_opposite α a i t)))))
      (closing_law k l in' α marks t true a)

  -- each instant and the one before it
  before_iff : (R : Bool → Bool → Bool → Bool) (x a b : ℕ → Bool) (v : Bool) → ((p q : Bool) → R p q v ≡ p) → ((x 0 ≡ b 0) × ((i : ℕ) → i < k → x (suc i) ≡ R (b (suc i)) (a (suc i)) (x i))) ↔ ((i : ℕ) → i < suc k → x i ≡ R (b i) (a i) (prior x v i 1))
  before_iff R x a b v z = ((λ h. to h.0 h.1), λ h. (h 0 (omega arith) ∙ z (b 0) (a 0), λ i c. h (suc i) (omega arith)))
    where
      to : x 0 ≡ b 0 → ((i : ℕ) → i < k → x (suc i) ≡ R (b (suc i)) (a (suc i)) (x i)) → (i : ℕ) → i < suc k → x i ≡ R (b i) (a i) (prior x v i 1)
      to f h zero c = f ∙ sym (z (b 0) (a 0))
      to f h (suc i) c = h i (omega arith)

  pub since_eqs : (x a b : Lits) → (sat_all α (same (x 0) (b 0) ++ each 0 k (λ i. upto (x (suc i)) (b (suc i)) (a (suc i)) (x i)) ++ closing k 1 false x) ≡ true) ↔ (((i : ℕ) → i < suc k → tests α x i ≡ (tests α b i || (tests α a i && prior (tests α x) false i 1))) × Closes k l 1 false (tests α x))
  since_eqs x a b =
      join_law α (same (x 0) (b 0) ++ each 0 k (λ i. upto (x (suc i)) (b (suc i)) (a (suc i)) (x i))) (closing k 1 false x)
      (Iff.trans (join_law α (same (x 0) (b 0)) (each 0 k (λ i. upto (x (suc i)) (b (suc i)) (a (suc i)) (x i))) (same_law α (x 0) (b 0)) (simp (each_law α, upto_law α) Iff.rfl))
      (before_iff (λ p q r. p || (q && r)) (tests α x) (tests α a) (tests α b) false upto_none))
      (closing_law k l in' α marks 1 false x)

  pub trigger_eqs : (x a b : Lits) → (sat_all α (same (x 0) (b 0) ++ each 0 k (λ i. hold (x (suc i)) (b (suc i)) (a (suc i)) (x i)) ++ closing k 1 true x) ≡ true) ↔ (((i : ℕ) → i < suc k → tests α x i ≡ (tests α b i && (tests α a i || prior (tests α x) true i 1))) × Closes k l 1 true (tests α x))
  trigger_eqs x a b =
      join_law α (same (x 0) (b 0) ++ each 0 k (λ i. hold (x (suc i)) (b (suc i)) (a (suc i)) (x i))) (closing k 1 true x)
      (Iff.trans (join_law α (same (x 0) (b 0)) (each 0 k (λ i. hold (x (suc i)) (b (suc i)) (a (suc i)) (x i))) (same_law α (x 0) (b 0)) (simp (each_law α, hold_law α) Iff.rfl))
      (before_iff (λ p q r. p && (q || r)) (tests α x) (tests α a) (tests α b) true none))
      (closing_law k l in' α marks 1 true x)
    where
      none : (p q : Bool) → (p && (q || true)) ≡ p
      none p q = grind arith
