-- The truth of each operator, as a test over the tests of its operands.
use Rattle.std.proofs.Common.{◌≡◌, ℕ, zero, suc, ◌+◌, ◌-◌, ◌<◌, ◌≤◌, Bool, true, false, not, ◌&&◌, ◌||◌, ◌⊎◌, ◌↔◌, Decides, sym, refl, ap, ◌∙◌, subst, inl, inr, ⊎_elim, arith}
use Rattle.std.proofs.lemmas.Bool.{cases_lt, cases_order, cases_Bool, both_ways, true≢false, not-true, not_from_false}
use Rattle.std.proofs.lemmas.Bool.Decides.{Decides-like, Decides-or, Decides-and, same_from_decides, Decides-at}
use Rattle.mtl.specs.Formula.{Course, Within, Throughout, Since, Trigger, Ago, Lately, Steadily}
use Rattle.mtl.specs.Runs.{lasso}
use Rattle.mtl.proofs.Shapes.{upto_none, some}
use Rattle.mtl.proofs.Some.{some_decides, scan}
use Rattle.mtl.proofs.Lasso.{lasso_low, lasso_le}
use Rattle.mtl.proofs.Loops.{Truth, TruthTo, endless}
use Rattle.mtl.proofs.Pasts.{prior, prior_at, prior_before, prior_round, prior_like, Closes}
use Rattle.mtl.proofs.Untils.{Non, nots, truth_not}

-- a test that is known tells what x tells, all round
module _ (k l : ℕ) (in' : l ≤ k) (x g : ℕ → Bool) (S : Course) (t : Truth g S) where
  pub told : ((i : ℕ) → x (lasso k l i) ≡ g i) → Truth (endless k l in' x) S
  told e i = Decides-at (x (lasso k l i)) (g i) (e i) (t i)

  pub tells_back : ((i : ℕ) → g i ≡ g (lasso k l i)) → TruthTo (suc k) x S → (i : ℕ) → x (lasso k l i) ≡ g i
  tells_back c h i =
      let b = lasso_le k l in' i in
      same_from_decides (x (lasso k l i)) (g (lasso k l i)) (h (lasso k l i) (omega arith)) (t (lasso k l i)) ∙ sym (c i)

pub within-truth : (a : ℕ → Bool) (P : Course) → Truth a P → (t : ℕ) → Truth (λ i. some a i (suc t)) (Within P t)
within-truth a P h t i =
    Decides-like (some a i (suc t)) (λ q. (q.0, q.1, omega arith, (h q.0).0 q.3)) (λ q. (q.0, q.1, omega arith, (h q.0).1 q.3))
    (some_decides a i (suc t))

-- what is never false is true
all_dual : (x : Bool) (a : ℕ → Bool) (P : Course) → Truth a P → (D : ℕ → Type 0) → Decides x ((j : ℕ) × D j × Non P j) → Decides (not x) ((j : ℕ) → D j → P j)
all_dual x a P h D d = (to, from)
  where
    to : not x ≡ true → (j : ℕ) → D j → P j
    to e j c = ⊎_elim (λ f. (h j).0 f) (λ f. absurd (both_ways x (not-true x e) (d.1 (j, c, λ p. both_ways (a j) f ((h j).1 p))))) (cases_Bool (a j))

    from : ((j : ℕ) → D j → P j) → not x ≡ true
    from f = ⊎_elim (λ e. absurd (let q = d.0 e in q.2 (f q.0 q.1))) (λ e. not_from_false x e) (cases_Bool x)

pub throughout_truth : (a : ℕ → Bool) (P : Course) → Truth a P → (t : ℕ) → Truth (λ i. not (some (nots a) i (suc t))) (Throughout P t)
throughout_truth a P h t i =
    let x = some (nots a) i (suc t) in
    Decides-like (not x) (λ f j b c. f j (b, c)) (λ f j b. f j b.0 b.1)
    (all_dual x a P h (λ j. (i ≤ j) × (j ≤ i + t))
    (Decides-like x (λ q. (q.0, (q.1, q.2), q.3)) (λ q. (q.0, q.1.0, q.1.1, q.2)) (within-truth (nots a) (Non P) (truth_not a P h) t i)))

pub ago_truth : (a : ℕ → Bool) (P : Course) → Truth a P → (t : ℕ) → Truth (λ i. prior a false i t) (Ago P t)
ago_truth a P h t i = ⊎_elim before at (cases_lt i t)
  where
    before : i < t → Decides (prior a false i t) (Ago P t i)
    before c = rw (prior_before a false i t c) ((λ e. absurd (true≢false (sym e))), λ q. absurd (omega arith))

    at : t ≤ i → Decides (prior a false i t) (Ago P t i)
    at c = rw (prior_at a false i t c) ((λ e. (c, (h (i - t)).0 e)), λ q. (h (i - t)).1 q.1)

-- there is no instant i - t, or P is true at it
abbrev pub WeakAgo : Course → ℕ → Course
WeakAgo P t i = (i < t) ⊎ P (i - t)

pub weak_ago_truth : (a : ℕ → Bool) (P : Course) → Truth a P → (t : ℕ) → Truth (λ i. prior a true i t) (WeakAgo P t)
weak_ago_truth a P h t i = ⊎_elim before at (cases_lt i t)
  where
    before : i < t → Decides (prior a true i t) (WeakAgo P t i)
    before c = rw (prior_before a true i t c) ((λ e. inl c), λ q. refl)

    at : t ≤ i → Decides (prior a true i t) (WeakAgo P t i)
    at c = rw (prior_at a true i t c) ((λ e. inr ((h (i - t)).0 e)), λ q. ⊎_elim (λ b. absurd (omega arith)) (λ p. (h (i - t)).1 p) q)

pub lately_truth : (a : ℕ → Bool) (P : Course) → Truth a P → (t : ℕ) → Truth (λ i. some (prior a false i) 0 (suc t)) (Lately P t)
lately_truth a P h t i = Decides-like (some (prior a false i) 0 (suc t)) to from (some_decides (prior a false i) 0 (suc t))
  where
    to : ((j : ℕ) × (0 ≤ j) × (j < 0 + suc t) × (prior a false i j ≡ true)) → Lately P t i
    to q = ⊎_elim (λ c. absurd (true≢false (sym q.3 ∙ prior_before a false i q.0 c))) (λ c. (i - q.0, omega arith, omega arith, (h (i - q.0)).0 (sym (prior_at a false i q.0 c) ∙ q.3))) (cases_lt i q.0)

    from : Lately P t i → (j : ℕ) × (0 ≤ j) × (j < 0 + suc t) × (prior a false i j ≡ true)
    from q =
        let e : i - (i - q.0) ≡ q.0 = omega arith in
        (i - q.0, omega arith, omega arith, prior_at a false i (i - q.0) (omega arith) ∙ rw e ((h q.0).1 q.3))

pub steadily_truth : (a : ℕ → Bool) (P : Course) → Truth a P → (t : ℕ) → Truth (λ i. not (some (prior (nots a) false i) 0 (suc t))) (Steadily P t)
steadily_truth a P h t i =
    let x = some (prior (nots a) false i) 0 (suc t) in
    Decides-like (not x) (λ f j b c. f j (b, c)) (λ f j b. f j b.0 b.1)
    (all_dual x a P h (λ j. (i - t ≤ j) × (j ≤ i))
    (Decides-like x (λ q. (q.0, (q.1, q.2), q.3)) (λ q. (q.0, q.1.0, q.1.1, q.2)) (lately_truth (nots a) (Non P) (truth_not a P h) t i)))

-- since, from the first instant on
abbrev pub since_of : (ℕ → Bool) → (ℕ → Bool) → ℕ → Bool
since_of a b zero = b zero
since_of a b (suc i) = b (suc i) || (a (suc i) && since_of a b i)

pub since_roll : (P Q : Course) (i : ℕ) → Since P Q (suc i) ↔ (Q (suc i) ⊎ (P (suc i) × Since P Q i))
since_roll P Q i = (to, ⊎_elim here there)
  where
    to : Since P Q (suc i) → Q (suc i) ⊎ (P (suc i) × Since P Q i)
    to h = ⊎_elim (λ e. inl (subst Q e h.2)) (λ g. ⊎_elim (λ c. inr (h.3 (suc i) c (omega arith), (h.0, omega arith, h.2, λ m a b. h.3 m a (omega arith)))) (λ c. absurd (omega arith)) g) (cases_order h.0 (suc i))

    here : Q (suc i) → Since P Q (suc i)
    here q = (suc i, omega arith, q, λ m a b. absurd (omega arith))

    there : P (suc i) × Since P Q i → Since P Q (suc i)
    there h = (h.1.0, omega arith, h.1.2, λ m a b. ⊎_elim (λ e. subst P (sym e) h.0) (λ g. ⊎_elim (λ c. h.1.3 m a (omega arith)) (λ c. absurd (omega arith)) g) (cases_order m (suc i)))

pub since_truth : (a b : ℕ → Bool) (P Q : Course) → Truth a P → Truth b Q → Truth (since_of a b) (Since P Q)
since_truth a b P Q ta tb zero =
    Decides-like (b 0) (λ q. (0, omega arith, q, λ m c d. absurd (omega arith))) (λ h. let e : h.0 ≡ 0 = omega arith in subst Q e h.2) (tb 0)
since_truth a b P Q ta tb (suc i) =
    Decides-like (since_of a b (suc i)) (since_roll P Q i).1 (since_roll P Q i).0
    (Decides-or (b (suc i)) (a (suc i) && since_of a b i) (tb (suc i)) (Decides-and (a (suc i)) (since_of a b i) (ta (suc i)) (since_truth a b P Q ta tb i)))

pub trigger_truth : (a b : ℕ → Bool) (P Q : Course) → Truth a P → Truth b Q → Truth (λ i. not (since_of (nots a) (nots b) i)) (Trigger P Q)
trigger_truth a b P Q ta tb i = (to, from)
  where
    d : Decides (since_of (nots a) (nots b) i) (Since (Non P) (Non Q) i)
    d = since_truth (nots a) (nots b) (Non P) (Non Q) (truth_not a P ta) (truth_not b Q tb) i

    x : Bool
    x = since_of (nots a) (nots b) i

    to : not (since_of (nots a) (nots b) i) ≡ true → Trigger P Q i
    to t j c = ⊎_elim (λ e. inl ((tb j).0 e)) (λ e. ⊎_elim (λ h. inr (h.0, h.1, omega arith, (ta h.0).0 h.3)) (λ h. none e h) (scan a (suc j) (suc i))) (cases_Bool (b j))
      where
        none : b j ≡ false → ((m : ℕ) → suc j ≤ m → m < suc i → a m ≡ false) → Q j ⊎ ((m : ℕ) × (j < m) × (m ≤ i) × P m)
        none e h =
            let u = d.1 (j, c, (λ q. both_ways (b j) e ((tb j).1 q)), λ m g n p. both_ways (a m) (h m g (omega arith)) ((ta m).1 p)) in
            absurd (both_ways (since_of (nots a) (nots b) i) (not-true (since_of (nots a) (nots b) i) t) u)

    from : Trigger P Q i → not (since_of (nots a) (nots b) i) ≡ true
    from r = ⊎_elim (λ e. absurd (clash (d.0 e))) (λ e. not_from_false (since_of (nots a) (nots b) i) e) (cases_Bool (since_of (nots a) (nots b) i))
      where
        clash : Since (Non P) (Non Q) i → ⊥
        clash u = ⊎_elim (λ q. u.2 q) (λ h. u.3 h.0 h.1 h.2 h.3) (r u.0 u.1)

-- since goes on round the loop, if the loop closes on it
module _ (k l : ℕ) (in' : l ≤ k) (x a b : ℕ → Bool) (closes : Closes k l 1 false x) (law : (i : ℕ) → i < suc k → x i ≡ (b i || (a i && prior x false i 1))) where
  law_round : (i : ℕ) → x (lasso k l i) ≡ (b (lasso k l i) || (a (lasso k l i) && prior (endless k l in' x) false i 1))
  law_round i =
      let c = lasso_le k l in' i in
      law (lasso k l i) (omega arith)
      ∙ ap (λ p. b (lasso k l i) || (a (lasso k l i) && p))
      (prior_like x (endless k l in' x) false (lasso k l i) 1 (λ m h. ap x (sym (lasso_low k l in' m (omega arith)))) ∙ sym (prior_round k l in' 1 false x closes i 1 (omega arith)))

  pub since_round : (i : ℕ) → x (lasso k l i) ≡ since_of (endless k l in' a) (endless k l in' b) i
  since_round zero = law_round 0 ∙ upto_none (b (lasso k l 0)) (a (lasso k l 0))
  since_round (suc i) = law_round (suc i) ∙ ap (λ p. b (lasso k l (suc i)) || (a (lasso k l (suc i)) && p)) (since_round i)
