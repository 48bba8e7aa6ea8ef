-- How until is worked out on a run: backwards over the loop once with false beyond it, then over the whole run.
use Rattle.std.proofs.Common.{◌≡◌, ℕ, zero, suc, ◌+◌, ◌-◌, ◌<◌, ◌≤◌, Bool, true, false, not, ◌&&◌, ◌||◌, sym, ap, ◌∙◌, ⊎_elim, arith}
use Rattle.std.proofs.lemmas.Bool.{cases_Bool, or_cases, or_left, or_right, and_parts, true≢false}
use Rattle.mtl.specs.Formula.{Course, Until}
use Rattle.mtl.proofs.Loops.{Truth, TruthTo, endless, step_iff, truth_low}
use Rattle.mtl.proofs.Untils.{UntilEqs, Seen, seen_first, seen_more, until_sound}

-- d instants from i on, with s beyond them
abbrev pub sweep : (ℕ → Bool) → (ℕ → Bool) → Bool → ℕ → ℕ → Bool
sweep a b s zero i = s
sweep a b s (suc d) i = b i || (a i && sweep a b s d (suc i))

abbrev alls : (ℕ → Bool) → ℕ → ℕ → Bool
alls a zero i = true
alls a (suc d) i = a i && alls a d (suc i)

sweep_seed : (a b : ℕ → Bool) (s : Bool) (d i : ℕ) → sweep a b s d i ≡ (sweep a b false d i || (s && alls a d i))
sweep_seed a b s zero i = t s
  where
    t : (s : Bool) → s ≡ (false || (s && true))
    t s = grind arith
sweep_seed a b s (suc d) i = rw (sweep_seed a b s d (suc i)) (t (b i) (a i) (sweep a b false d (suc i)) s (alls a d (suc i)))
  where
    t : (b a r s q : Bool) → (b || (a && (r || (s && q)))) ≡ ((b || (a && r)) || (s && (a && q)))
    t b a r s q = grind arith

-- once round is enough
sweep_twice : (a b : ℕ → Bool) (d i : ℕ) → sweep a b (sweep a b false d i) d i ≡ sweep a b false d i
sweep_twice a b d i = sweep_seed a b (sweep a b false d i) d i ∙ t (sweep a b false d i) (alls a d i)
  where
    t : (p q : Bool) → (p || (p && q)) ≡ p
    t p q = grind arith

sweep_found : (a b : ℕ → Bool) (d i : ℕ) → sweep a b false d i ≡ true → (j : ℕ) × (i ≤ j) × (j < i + d) × (b j ≡ true)
sweep_found a b zero i h = absurd (true≢false (sym h))
sweep_found a b (suc d) i h =
    ⊎_elim (λ e. (i, omega arith, omega arith, e))
    (λ e. let r = sweep_found a b d (suc i) (and_parts (a i) (sweep a b false d (suc i)) e).1 in (r.0, omega arith, omega arith, r.3))
    (or_cases (b i) (a i && sweep a b false d (suc i)) h)

-- until, worked out at 0 to k
abbrev pub evaluated : ℕ → ℕ → (ℕ → Bool) → (ℕ → Bool) → ℕ → Bool
evaluated k l a b i = sweep a b (sweep a b false (suc k - l) l) (suc k - i) i

module _ (k l : ℕ) (in' : l ≤ k) (a b e : ℕ → Bool) (P Q : Course) (ta : Truth (endless k l in' a) P) (tb : Truth (endless k l in' b) Q) (te : TruthTo (suc k) e (Seen l Q)) where
  step : (i : ℕ) → i ≤ k → (evaluated k l a b) i ≡ (b i || (a i && sweep a b (sweep a b false (suc k - l) l) (k - i) (suc i)))
  step i h = let s : suc k - i ≡ suc (k - i) = omega arith in rw s

  evaluated_eqs : UntilEqs k l (evaluated k l a b) a b e
  evaluated_eqs = record {
    expands = (step_iff k l in' (λ i n. (evaluated k l a b) i ≡ (b i || (a i && (evaluated k l a b) n)))).0 ((λ i c. step i (omega arith) ∙ ap (λ p. b i || (a i && p)) (below i c)), step k (omega arith) ∙ ap (λ p. b k || (a k && p)) around);
    first = seen_first k l in' (evaluated k l a b) a b e P Q ta tb te;
    more = seen_more k l in' (evaluated k l a b) a b e P Q ta tb te;
    last = ⊎_elim (λ t. or_right (not ((evaluated k l a b) k)) (e k) ((te k (omega arith)).1 (find t))) (λ t. or_left (not ((evaluated k l a b) k)) (e k) (ap not t)) (cases_Bool ((evaluated k l a b) k));
  }
    where
      below : (i : ℕ) → i < k → sweep a b (sweep a b false (suc k - l) l) (k - i) (suc i) ≡ (evaluated k l a b) (suc i)
      below i c = let s : k - i ≡ suc k - suc i = omega arith in rw s

      around : sweep a b (sweep a b false (suc k - l) l) (k - k) (suc k) ≡ (evaluated k l a b) l
      around = let s : k - k ≡ 0 = omega arith in rw s (sym (sweep_twice a b (suc k - l) l))

      at : (j : ℕ) → j ≤ k → b j ≡ true → Q j
      at j c t = (truth_low k l in' b Q tb j (omega arith)).0 t

      find : (evaluated k l a b) k ≡ true → Seen l Q k
      find t =
          ⊎_elim (λ h. (k, in', omega arith, at k (omega arith) h))
          (λ h. let r = sweep_found a b (suc k - l) l (let s : k - k ≡ 0 = omega arith in rw s at (and_parts (a k) (sweep a b (sweep a b false (suc k - l) l) (k - k) (suc k)) h).1) in (r.0, r.1, omega arith, at r.0 (omega arith) r.3))
          (or_cases (b k) (a k && sweep a b (sweep a b false (suc k - l) l) (k - k) (suc k)) (sym (step k (omega arith)) ∙ t))

  pub until_evaluated : TruthTo (suc k) (evaluated k l a b) (Until P Q)
  until_evaluated = truth_low k l in' (evaluated k l a b) (Until P Q) (until_sound k l in' (evaluated k l a b) a b e P Q ta tb evaluated_eqs).0
