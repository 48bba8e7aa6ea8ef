-- Until and release over sequences of tests.
use Rattle.std.proofs.Common.{◌≡◌, ℕ, zero, suc, ◌+◌, ◌-◌, ◌*◌, ◌<◌, ◌≤◌, Bool, true, false, not, ◌&&◌, ◌||◌, leb, ◌⊎◌, ◌↔◌, Decides, sym, ◌∙◌, subst, inl, inr, ⊎_elim, add-zero, add-suc, arith}
use Rattle.std.proofs.lemmas.Bool.{cases_order, cases_Bool, or_cases, or_left, or_right, and_parts, and_from, le-leb, leb-true, both_ways, not-true, not_from_false}
use Rattle.std.proofs.lemmas.Bool.Decides.{Decides-like, Decides-or, Decides-and, Decides-not, same_from_decides, Decides-at}
use Rattle.mtl.specs.Formula.{Course, Until, Release}
use Rattle.mtl.specs.Lists.{period}
use Rattle.mtl.specs.Runs.{lasso}
use Rattle.mtl.proofs.Shapes.{hold_dual}
use Rattle.mtl.proofs.Lasso.{lasso_low, lasso_le, lasso_ge, lasso_twice, add_like, again, again_late}
use Rattle.mtl.proofs.Some.{scan}
use Rattle.mtl.proofs.Loops.{Truth, TruthTo, endless, Circular, circular, all_round, truth_low}

pub until_roll : (P Q : Course) (i : ℕ) → Until P Q i ↔ (Q i ⊎ (P i × Until P Q (suc i)))
until_roll P Q i = (to, ⊎_elim here there)
  where
    to : Until P Q i → Q i ⊎ (P i × Until P Q (suc i))
    to h = ⊎_elim (λ e. inl (subst Q (sym e) h.2)) (λ g. ⊎_elim (λ c. inr (h.3 i (omega arith) c, (h.0, c, h.2, λ m a b. h.3 m (omega arith) b))) (λ c. absurd (omega arith)) g) (cases_order i h.0)

    here : Q i → Until P Q i
    here q = (i, omega arith, q, λ m a b. absurd (omega arith))

    there : P i × Until P Q (suc i) → Until P Q i
    there h = (h.1.0, omega arith, h.1.2, λ m a b. ⊎_elim (λ e. subst P e h.0) (λ g. ⊎_elim (λ c. h.1.3 m c b) (λ c. absurd (omega arith)) g) (cases_order i m))

module _ (x a b : ℕ → Bool) (P Q : Course) (ta : Truth a P) (tb : Truth b Q) where
  abbrev pub Expands : Type 0
  Expands = (i : ℕ) → x i ≡ (b i || (a i && x (suc i)))

  pub expands : Truth x (Until P Q) → Expands
  expands t i =
      same_from_decides (x i) (b i || (a i && x (suc i))) (t i)
      (Decides-like (b i || (a i && x (suc i))) (until_roll P Q i).1 (until_roll P Q i).0
      (Decides-or (b i) (a i && x (suc i)) (tb i) (Decides-and (a i) (x (suc i)) (ta i) (t (suc i)))))

  module _ (law : Expands) where
    from_until : (d i j : ℕ) → i + d ≡ j → Q j → ((m : ℕ) → i ≤ m → m < j → P m) → x i ≡ true
    from_until zero i j e q p = let c : i ≡ j = omega arith in law i ∙ or_left (b i) (a i && x (suc i)) ((tb i).1 (subst Q (sym c) q))
    from_until (suc d) i j e q p =
        law i ∙ or_right (b i) (a i && x (suc i))
        (and_from (a i) (x (suc i)) ((ta i).1 (p i (omega arith) (omega arith))) (from_until d (suc i) j (omega arith) q (λ m g h. p m (omega arith) h)))

    going : (i : ℕ) → x i ≡ true → (n : ℕ) → Until P Q i ⊎ (((m : ℕ) → i ≤ m → m < i + n → P m) × (x (i + n) ≡ true))
    going i t zero = inr ((λ m g h. absurd (omega arith)), rw add-zero t)
    going i t (suc n) = ⊎_elim inl more (going i t n)
      where
        more : ((m : ℕ) → i ≤ m → m < i + n → P m) × (x (i + n) ≡ true) → Until P Q i ⊎ (((m : ℕ) → i ≤ m → m < i + suc n → P m) × (x (i + suc n) ≡ true))
        more h =
            ⊎_elim (λ e. inl (i + n, omega arith, (tb (i + n)).0 e, h.0))
            (λ e. inr (on (and_parts (a (i + n)) (x (suc (i + n))) e).0, rw add-suc (and_parts (a (i + n)) (x (suc (i + n))) e).1))
            (or_cases (b (i + n)) (a (i + n) && x (suc (i + n))) (sym (law (i + n)) ∙ h.1))
          where
            on : a (i + n) ≡ true → (m : ℕ) → i ≤ m → m < i + suc n → P m
            on e m g l = ⊎_elim (λ c. subst P (sym c) ((ta (i + n)).0 e)) (λ c. ⊎_elim (λ c. h.0 m g c) (λ c. absurd (omega arith)) c) (cases_order m (i + n))

    -- where x stays true, Q comes
    pub until_truth : ((i : ℕ) → (n : ℕ) × (x (i + n) ≡ true → (d : ℕ) × Q (i + d))) → Truth x (Until P Q)
    until_truth fair i = (λ t. to t, λ u. from_until (u.0 - i) i u.0 (omega arith) u.2 u.3)
      where
        to : x i ≡ true → Until P Q i
        to t = ⊎_elim (λ u. u) (λ h. late ((fair i).1 h.1)) (going i t (fair i).0)
          where
            late : ((d : ℕ) × Q (i + d)) → Until P Q i
            late q = ⊎_elim (λ u. u) (λ h. (i + q.0, omega arith, q.1, h.0)) (going i t q.0)

-- some instant from l to i has Q
abbrev pub Seen : ℕ → Course → Course
Seen l Q i = (j : ℕ) × (l ≤ j) × (j ≤ i) × Q j

pub seen_zero : (l : ℕ) (Q : Course) → Seen l Q 0 ↔ ((l ≤ 0) × Q 0)
seen_zero l Q = ((λ h. let e : h.0 ≡ 0 = omega arith in (omega arith, subst Q e h.3)), λ h. (0, h.0, omega arith, h.1))

pub seen_suc : (l : ℕ) (Q : Course) (i : ℕ) → Seen l Q (suc i) ↔ (Seen l Q i ⊎ ((l ≤ suc i) × Q (suc i)))
seen_suc l Q i = (
  (λ h. ⊎_elim (λ e. inr (omega arith, subst Q e h.3)) (λ g. ⊎_elim (λ c. inl (h.0, h.1, omega arith, h.3)) (λ c. absurd (omega arith)) g) (cases_order h.0 (suc i))),
  ⊎_elim (λ h. (h.0, h.1, omega arith, h.3)) (λ h. (suc i, h.0, omega arith, h.1)),
)

decides_leb : (a b : ℕ) → Decides (leb a b) (a ≤ b)
decides_leb a b = (leb-true a b, le-leb a b)

-- what the clauses of until say
pub record UntilEqs (k l : ℕ) (x a b e : ℕ → Bool) : Type 0 where
  pub expands : (i : ℕ) → x (lasso k l i) ≡ (b (lasso k l i) || (a (lasso k l i) && x (lasso k l (suc i))))
  pub first : e 0 ≡ (leb l 0 && b 0)
  pub more : (i : ℕ) → i < k → e (suc i) ≡ (e i || (leb l (suc i) && b (suc i)))
  pub last : (not (x k) || e k) ≡ true

module _ (k l : ℕ) (in' : l ≤ k) (x a b e : ℕ → Bool) (P Q : Course) (ta : Truth (endless k l in' a) P) (tb : Truth (endless k l in' b) Q) where
  low_b : TruthTo (suc k) b Q
  low_b = truth_low k l in' b Q tb

  seen-truth : UntilEqs k l x a b e → (i : ℕ) → i < suc k → Decides (e i) (Seen l Q i)
  seen-truth q zero c =
      Decides-at (e 0) (leb l 0 && b 0) q.first
      (Decides-like (leb l 0 && b 0) (seen_zero l Q).1 (seen_zero l Q).0 (Decides-and (leb l 0) (b 0) (decides_leb l 0) (low_b 0 c)))
  seen-truth q (suc i) c =
      Decides-at (e (suc i)) (e i || (leb l (suc i) && b (suc i))) (q.more i (omega arith))
      (Decides-like (e i || (leb l (suc i) && b (suc i))) (seen_suc l Q i).1 (seen_suc l Q i).0
      (Decides-or (e i) (leb l (suc i) && b (suc i)) (seen-truth q i (omega arith)) (Decides-and (leb l (suc i)) (b (suc i)) (decides_leb l (suc i)) (low_b (suc i) c))))

  pub until_sound : UntilEqs k l x a b e → Truth (endless k l in' x) (Until P Q) × TruthTo (suc k) e (Seen l Q)
  until_sound q = (until_truth (endless k l in' x) (endless k l in' a) (endless k l in' b) P Q ta tb q.expands fair, seen-truth q)
    where
      fair : (i : ℕ) → (n : ℕ) × (x (lasso k l (i + n)) ≡ true → (d : ℕ) × Q (i + d))
      fair i = (k + period k l * i - i, λ t. late ((seen-truth q k (omega arith)).0 (have t)))
        where
          have : x (lasso k l (i + (k + period k l * i - i))) ≡ true → e k ≡ true
          have t =
              let g = again_late k l in' k i in
              let s : i + (k + period k l * i - i) ≡ k + period k l * i = omega arith in
              let r = again k l in' k i in' (omega arith) in
              let t' : x k ≡ true = rw (s, r) at t in
              let w = q.last in grind arith

          late : Seen l Q k → (d : ℕ) × Q (i + d)
          late h =
              let g = again_late k l in' h.0 i in
              let s : h.0 + period k l * i ≡ i + (h.0 + period k l * i - i) = omega arith in
              let r = again k l in' h.0 i h.1 h.2 in
              (h.0 + period k l * i - i, subst Q s (circular k l in' b Q tb h.0 (h.0 + period k l * i) (lasso_low k l in' h.0 h.2 ∙ sym r) h.3))

  pub until_circular : Circular k l in' (Until P Q)
  until_circular i j s u =
      let d : ℕ = u.0 - i in (
        j + d,
        omega arith,
        circular k l in' b Q tb u.0 (j + d) (let z : i + d ≡ u.0 = omega arith in subst (λ m. lasso k l m ≡ lasso k l (j + d)) z (add_like k l in' d i j s)) u.2,
        λ m g h. circular k l in' a P ta (i + (m - j)) m (let z : j + (m - j) ≡ m = omega arith in subst (λ n. lasso k l (i + (m - j)) ≡ lasso k l n) z (add_like k l in' (m - j) i j s)) (u.3 (i + (m - j)) (omega arith) (omega arith)),
      )

  pub seen_first : TruthTo (suc k) e (Seen l Q) → e 0 ≡ (leb l 0 && b 0)
  seen_first s =
      same_from_decides (e 0) (leb l 0 && b 0) (s 0 (omega arith))
      (Decides-like (leb l 0 && b 0) (seen_zero l Q).1 (seen_zero l Q).0 (Decides-and (leb l 0) (b 0) (decides_leb l 0) (low_b 0 (omega arith))))

  pub seen_more : TruthTo (suc k) e (Seen l Q) → (i : ℕ) → i < k → e (suc i) ≡ (e i || (leb l (suc i) && b (suc i)))
  seen_more s i c =
      same_from_decides (e (suc i)) (e i || (leb l (suc i) && b (suc i))) (s (suc i) (omega arith))
      (Decides-like (e i || (leb l (suc i) && b (suc i))) (seen_suc l Q i).1 (seen_suc l Q i).0
      (Decides-or (e i) (leb l (suc i) && b (suc i)) (s i (omega arith)) (Decides-and (leb l (suc i)) (b (suc i)) (decides_leb l (suc i)) (low_b (suc i) (omega arith)))))

  pub until_complete : TruthTo (suc k) x (Until P Q) → TruthTo (suc k) e (Seen l Q) → UntilEqs k l x a b e
  until_complete t s = record {
    expands = expands (endless k l in' x) (endless k l in' a) (endless k l in' b) P Q ta tb (all_round k l in' x (Until P Q) until_circular t);
    first = seen_first s;
    more = seen_more s;
    last = end;
  }
    where
      end : (not (x k) || e k) ≡ true
      end = ⊎_elim (λ f. found f) (λ f. or_left (not (x k)) (e k) (rw f)) (cases_Bool (x k))
        where
          found : x k ≡ true → (not (x k) || e k) ≡ true
          found f =
              let u = (t k (omega arith)).0 f in
              or_right (not (x k)) (e k)
              ((s k (omega arith)).1 (lasso k l u.0, lasso_ge k l in' u.0 (omega arith), lasso_le k l in' u.0, circular k l in' b Q tb u.0 (lasso k l u.0) (sym (lasso_twice k l in' u.0)) u.2))

-- what is false
abbrev pub Non : Course → Course
Non P i = P i → ⊥

abbrev pub nots : (ℕ → Bool) → ℕ → Bool
nots x i = not (x i)

pub truth_not : (a : ℕ → Bool) (P : Course) → Truth a P → Truth (nots a) (Non P)
truth_not a P t i = Decides-not (a i) (t i)

-- release is what until is not
pub release_dual : (a b : ℕ → Bool) (P Q : Course) (ta : Truth a P) (tb : Truth b Q) (x : Bool) (i : ℕ) → Decides (not x) (Until (Non P) (Non Q) i) → Decides x (Release P Q i)
release_dual a b P Q ta tb x i d = (to, from)
  where
    to : x ≡ true → Release P Q i
    to t j c = ⊎_elim (λ e. inl ((tb j).0 e)) (λ e. ⊎_elim (λ h. inr (h.0, h.1, h.2, (ta h.0).0 h.3)) (λ h. none e h) (scan a i j)) (cases_Bool (b j))
      where
        none : b j ≡ false → ((m : ℕ) → i ≤ m → m < j → a m ≡ false) → Q j ⊎ ((m : ℕ) × (i ≤ m) × (m < j) × P m)
        none e h =
            let u = d.1 (j, c, (λ q. both_ways (b j) e ((tb j).1 q)), λ m g n p. both_ways (a m) (h m g n) ((ta m).1 p)) in
            absurd (both_ways x (not-true x u) t)

    from : Release P Q i → x ≡ true
    from r = ⊎_elim (λ e. e) (λ e. absurd (clash (d.0 (not_from_false x e)))) (cases_Bool x)
      where
        clash : Until (Non P) (Non Q) i → ⊥
        clash u = ⊎_elim (λ q. u.2 q) (λ h. u.3 h.0 h.1 h.2 h.3) (r u.0 u.1)

module _ (a : ℕ → Bool) (P Q : Course) (ta : Truth a P) where
  pub release_roll : (i : ℕ) → Release P Q i ↔ (Q i × (P i ⊎ Release P Q (suc i)))
  release_roll i = (to, from)
    where
      to : Release P Q i → Q i × (P i ⊎ Release P Q (suc i))
      to r = (⊎_elim (λ q. q) (λ h. absurd (omega arith)) (r i (omega arith)), ⊎_elim (λ e. inl ((ta i).0 e)) (λ e. inr (λ j c. ⊎_elim inl (λ h. inr (on e j h)) (r j (omega arith)))) (cases_Bool (a i)))
        where
          on : a i ≡ false → (j : ℕ) → ((m : ℕ) × (i ≤ m) × (m < j) × P m) → (m : ℕ) × (suc i ≤ m) × (m < j) × P m
          on e j h = ⊎_elim (λ g. absurd (both_ways (a i) e ((ta i).1 (subst P (sym g) h.3)))) (λ g. ⊎_elim (λ c. (h.0, c, h.2, h.3)) (λ c. absurd (omega arith)) g) (cases_order i h.0)

      from : Q i × (P i ⊎ Release P Q (suc i)) → Release P Q i
      from h j c =
          ⊎_elim (λ e. inl (subst Q e h.0))
          (λ g. ⊎_elim (λ g. ⊎_elim (λ p. inr (i, omega arith, g, p)) (λ r. ⊎_elim inl (λ m. inr (m.0, omega arith, m.2, m.3)) (r j g)) h.1) (λ g. absurd (omega arith)) g)
          (cases_order i j)

module _ (k l : ℕ) (in' : l ≤ k) (x a b e : ℕ → Bool) (P Q : Course) (ta : Truth (endless k l in' a) P) (tb : Truth (endless k l in' b) Q) where
  na : Truth (endless k l in' (nots a)) (Non P)
  na i = Decides-not (a (lasso k l i)) (ta i)

  nb : Truth (endless k l in' (nots b)) (Non Q)
  nb i = Decides-not (b (lasso k l i)) (tb i)

  pub release_sound : UntilEqs k l (nots x) (nots a) (nots b) e → Truth (endless k l in' x) (Release P Q) × TruthTo (suc k) e (Seen l (Non Q))
  release_sound q =
      let u = until_sound k l in' (nots x) (nots a) (nots b) e (Non P) (Non Q) na nb q in
      ((λ i. release_dual (endless k l in' a) (endless k l in' b) P Q ta tb (x (lasso k l i)) i (u.0 i)), u.1)

  pub release_circular : Circular k l in' (Release P Q)
  release_circular i j s r n c =
      let z : j + (n - j) ≡ n = omega arith in
      let w : lasso k l (i + (n - j)) ≡ lasso k l n = subst (λ m. lasso k l (i + (n - j)) ≡ lasso k l m) z (add_like k l in' (n - j) i j s) in
      ⊎_elim (λ q. inl (circular k l in' b Q tb (i + (n - j)) n w q)) (λ h. inr (at h)) (r (i + (n - j)) (omega arith))
    where
      at : ((m : ℕ) × (i ≤ m) × (m < i + (n - j)) × P m) → (m : ℕ) × (j ≤ m) × (m < n) × P m
      at h =
          let z : i + (h.0 - i) ≡ h.0 = omega arith in (
            j + (h.0 - i),
            omega arith,
            omega arith,
            circular k l in' a P ta h.0 (j + (h.0 - i)) (subst (λ m. lasso k l m ≡ lasso k l (j + (h.0 - i))) z (add_like k l in' (h.0 - i) i j s)) h.3,
          )

  pub release_complete : TruthTo (suc k) x (Release P Q) → TruthTo (suc k) e (Seen l (Non Q)) → UntilEqs k l (nots x) (nots a) (nots b) e
  release_complete t s = record {
    expands = λ i. (hold_dual (x (lasso k l i)) (b (lasso k l i)) (a (lasso k l i)) (x (lasso k l (suc i)))).0 (rolls i);
    first = seen_first k l in' (nots x) (nots a) (nots b) e (Non P) (Non Q) na nb s;
    more = seen_more k l in' (nots x) (nots a) (nots b) e (Non P) (Non Q) na nb s;
    last = ⊎_elim (λ f. or_right (not (not (x k))) (e k) f) (λ f. or_left (not (not (x k))) (e k) (rw ((t k (omega arith)).1 (held f)))) (cases_Bool (e k));
  }
    where
      all_along : Truth (endless k l in' x) (Release P Q)
      all_along = all_round k l in' x (Release P Q) release_circular t

      rolls : (i : ℕ) → x (lasso k l i) ≡ (b (lasso k l i) && (a (lasso k l i) || x (lasso k l (suc i))))
      rolls i =
          let y = b (lasso k l i) && (a (lasso k l i) || x (lasso k l (suc i))) in
          same_from_decides (x (lasso k l i)) y (all_along i)
          (Decides-like y (release_roll (endless k l in' a) P Q ta i).1 (release_roll (endless k l in' a) P Q ta i).0
          (Decides-and (b (lasso k l i)) (a (lasso k l i) || x (lasso k l (suc i))) (tb i) (Decides-or (a (lasso k l i)) (x (lasso k l (suc i))) (ta i) (all_along (suc i)))))

      held : e k ≡ false → Release P Q k
      held f j c = inl (⊎_elim (λ g. (tb j).0 g) (λ g. absurd (both_ways (e k) f ((s k (omega arith)).1 (miss g)))) (cases_Bool (b (lasso k l j))))
        where
          miss : b (lasso k l j) ≡ false → Seen l (Non Q) k
          miss g = (lasso k l j, lasso_ge k l in' j (omega arith), lasso_le k l in' j, λ q. both_ways (b (lasso k l j)) g ((tb j).1 (circular k l in' b Q tb (lasso k l j) j (lasso_twice k l in' j) q)))
