-- The clauses of begin say that the run has one loop start.
use Rattle.std.proofs.Common.{◌≡◌, ℕ, zero, suc, ◌+◌, ◌<◌, ◌≤◌, Bool, true, false, not, ◌&&◌, ◌||◌, eqb, leb, ◌⊎◌, ◌↔◌, [], ◌∷◌, sym, refl, ◌∙◌, subst, inl, inr, ⊎_elim, arith}
use mathlib.Core.Logic.Iff
use Rattle.std.proofs.lemmas.Bool.{cases_Bool, cases_order, both_ways, eq-eqb, ne_eqb, le-leb, lt-leb}
use Rattle.std.proofs.lemmas.Bool.Decides.{nat_tests}
use Rattle.cnf.specs.Clauses.{truth, sat_all}
use Rattle.mtl.specs.Shapes.{span}
use Rattle.mtl.specs.Lists.{starts, inside, begin}
use Rattle.mtl.specs.Runs.{Marks}
use Rattle.mtl.proofs.Shapes.{some, append_law, each_law, same_law, either_law, pair_law, sat-span}
use Rattle.mtl.proofs.Some.{some_true, some_from}

-- what the clauses say, as equations
pub record Starts (k : ℕ) (L N : ℕ → Bool) : Type 0 where
  pub one : some L 0 (suc k) ≡ true
  pub once : (i : ℕ) → i < k → (not (N i) || not (L (suc i))) ≡ true
  pub first : N 0 ≡ L 0
  pub more : (i : ℕ) → i < k → N (suc i) ≡ (N i || L (suc i))

-- one more instant
pub upto_more : (P : ℕ → Type 0) (n : ℕ) → ((i : ℕ) → i ≤ n → P i) → P (suc n) → (i : ℕ) → i ≤ suc n → P i
upto_more P n h p i c =
    ⊎_elim (λ e. subst P (sym e) p) (λ g. ⊎_elim (λ l. h i (omega arith)) (λ l. absurd (omega arith)) g) (cases_order i (suc n))

-- the loop starts at l
abbrev pub At : (ℕ → Bool) → (ℕ → Bool) → ℕ → ℕ → Type 0
At L N l i = (L i ≡ eqb l i) × (N i ≡ leb l i)

abbrev Clear : (ℕ → Bool) → (ℕ → Bool) → ℕ → Type 0
Clear L N i = (L i ≡ false) × (N i ≡ false)

module _ (k : ℕ) (L N : ℕ → Bool) where
  scan_starts : Starts k L N → (n : ℕ) → n ≤ k → ((i : ℕ) → i ≤ n → Clear L N i) ⊎ ((l : ℕ) × (l ≤ n) × ((i : ℕ) → i ≤ n → At L N l i))
  scan_starts s zero h = ⊎_elim on off (cases_Bool (L 0))
    where
      zero_only : (P : ℕ → Type 0) → P 0 → (i : ℕ) → i ≤ 0 → P i
      zero_only P p i c = let e : 0 ≡ i = omega arith in subst P e p

      on : L 0 ≡ true → ((i : ℕ) → i ≤ 0 → Clear L N i) ⊎ ((l : ℕ) × (l ≤ 0) × ((i : ℕ) → i ≤ 0 → At L N l i))
      on t = inr (0, omega arith, zero_only (At L N 0) (t, s.first ∙ t))

      off : L 0 ≡ false → ((i : ℕ) → i ≤ 0 → Clear L N i) ⊎ ((l : ℕ) × (l ≤ 0) × ((i : ℕ) → i ≤ 0 → At L N l i))
      off t = inl (zero_only (Clear L N) (t, s.first ∙ t))
  scan_starts s (suc n) h = ⊎_elim none (λ a. inr (a.0, omega arith, upto_more (At L N a.0) n a.2 (found a.0 a.1 (a.2 n (omega arith)).1))) (scan_starts s n (omega arith))
    where
      m : N (suc n) ≡ (N n || L (suc n))
      m = s.more n (omega arith)

      found : (l : ℕ) → l ≤ n → N n ≡ leb l n → At L N l (suc n)
      found l c e =
          let o = s.once n (omega arith) in
          let t : N n ≡ true = e ∙ le-leb l n c in
          let f : L (suc n) ≡ false = grind arith in
          (f ∙ sym (ne_eqb l (suc n) (λ q. omega arith)), m ∙ rw t (sym (le-leb l (suc n) (omega arith))))

      none : ((i : ℕ) → i ≤ n → Clear L N i) → ((i : ℕ) → i ≤ suc n → Clear L N i) ⊎ ((l : ℕ) × (l ≤ suc n) × ((i : ℕ) → i ≤ suc n → At L N l i))
      none h = ⊎_elim on off (cases_Bool (L (suc n)))
        where
          c : Clear L N n
          c = h n (omega arith)

          on : L (suc n) ≡ true → ((i : ℕ) → i ≤ suc n → Clear L N i) ⊎ ((l : ℕ) × (l ≤ suc n) × ((i : ℕ) → i ≤ suc n → At L N l i))
          on t = inr (suc n, omega arith, upto_more (At L N (suc n)) n (λ i b. ((h i b).0 ∙ sym (ne_eqb (suc n) i (λ q. omega arith)), (h i b).1 ∙ sym (lt-leb (suc n) i (omega arith)))) (t ∙ sym (eq-eqb (suc n) (suc n) refl), m ∙ rw (c.1, t) (sym (le-leb (suc n) (suc n) (omega arith)))))

          off : L (suc n) ≡ false → ((i : ℕ) → i ≤ suc n → Clear L N i) ⊎ ((l : ℕ) × (l ≤ suc n) × ((i : ℕ) → i ≤ suc n → At L N l i))
          off t = inl (upto_more (Clear L N) n h (t, m ∙ rw (c.1, t)))

  pub starts_iff : Starts k L N ↔ ((l : ℕ) × (l ≤ k) × ((i : ℕ) → i ≤ k → At L N l i))
  starts_iff = (λ s. ⊎_elim (λ h. never s h (some_true L 0 (suc k) s.one)) (λ a. a) (scan_starts s k (omega arith)), λ a. back a.0 a.1 a.2)
    where
      never : Starts k L N → ((i : ℕ) → i ≤ k → Clear L N i) → ((j : ℕ) × (0 ≤ j) × (j < 0 + suc k) × (L j ≡ true)) → ((l : ℕ) × (l ≤ k) × ((i : ℕ) → i ≤ k → At L N l i))
      never s h a = absurd (both_ways (L a.0) (h a.0 (omega arith)).0 a.3)

      back : (l : ℕ) → l ≤ k → ((i : ℕ) → i ≤ k → At L N l i) → Starts k L N
      back l c h = record {
        one = some_from L 0 (suc k) l (omega arith) (omega arith) ((h l c).0 ∙ eq-eqb l l refl);
        once = λ i b. rw ((h i (omega arith)).1, (h (suc i) (omega arith)).0) (t i);
        first = (h 0 (omega arith)).1 ∙ z ∙ sym (h 0 (omega arith)).0;
        more = λ i b. rw ((h i (omega arith)).1, (h (suc i) (omega arith)).0, (h (suc i) (omega arith)).1) (u i);
      }
        where
          t : (i : ℕ) → (not (leb l i) || not (eqb l (suc i))) ≡ true
          t i = grind (arith, nat_tests)

          u : (i : ℕ) → leb l (suc i) ≡ (leb l i || eqb l (suc i))
          u i = grind (arith, nat_tests)

          z : leb l 0 ≡ eqb l 0
          z = grind (arith, nat_tests)

pub begin_eqs : (α : ℕ → Bool) (k : ℕ) → (sat_all α (begin k) ≡ true) ↔ Starts k (λ i. truth α (starts i)) (λ i. truth α (inside k i))
begin_eqs α k = (to, from)
  where
    single : (sat_all α (span starts 0 (suc k) ∷ []) ≡ true) ↔ (some (λ i. truth α (starts i)) 0 (suc k) ≡ true)
    single = rw (sat-span α starts 0 (suc k)) (t (some (λ i. truth α (starts i)) 0 (suc k)))
      where
        t : (p : Bool) → ((p && true) ≡ true) ↔ (p ≡ true)
        t true = Iff.rfl
        t false = Iff.rfl

    to : sat_all α (begin k) ≡ true → Starts k (λ i. truth α (starts i)) (λ i. truth α (inside k i))
    to h =
        let h' = simp (append_law α, each_law α, same_law α, either_law α, pair_law α) at h in
        record { one = single.0 h'.0.0.0; once = h'.0.0.1; first = h'.0.1; more = h'.1 }

    from : Starts k (λ i. truth α (starts i)) (λ i. truth α (inside k i)) → sat_all α (begin k) ≡ true
    from s =
        simp (append_law α, each_law α, same_law α, either_law α, pair_law α) (((single.1 s.one, s.once), s.first), s.more)

pub begin_law : (α : ℕ → Bool) (k : ℕ) → (sat_all α (begin k) ≡ true) ↔ ((l : ℕ) × (l ≤ k) × Marks k α l)
begin_law α k = Iff.trans (begin_eqs α k) (starts_iff k (λ i. truth α (starts i)) (λ i. truth α (inside k i)))
