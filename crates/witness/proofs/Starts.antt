-- The loop start that an area marks.
use Rattle.std.proofs.Common.{◌≡◌, ℕ, zero, suc, ◌+◌, ◌-◌, ◌<◌, ◌≤◌, true, false, cond, eqb, List, length, get_or, take, drop, Some, None, Option, sym, refl, ap, ◌∙◌, subst, ⊎_elim, arith, length-take-le, length-drop, get_or-take, get_or-drop}
use Rattle.std.proofs.lemmas.Bool.{cases_order, eq-eqb, ne_eqb}
use Rattle.std.specs.List.{AllWithin, HoldsAt}
use Rattle.cnf.specs.Clauses.{truth}
use Rattle.sinks.specs.Models.{assigned}
use Rattle.mtl.specs.Lists.{starts}
use Rattle.evaluate.specs.Bits.{bit}
use Rattle.witness.specs.Shown.{starts_true, start_below}
use Rattle.witness.proofs.Coming.{one_start}

module _ (area : List ℕ) where
  marked : (i : ℕ) → truth (assigned area) (starts i) ≡ bit area i
  marked i = let z : suc i - 1 ≡ i = omega arith in ap (bit area) z

  one_more : (i : ℕ) → starts_true (assigned area) (suc i) ≡ cond (bit area i) 1 0 + starts_true (assigned area) i
  one_more i = ap (λ b. cond b 1 0 + starts_true (assigned area) i) (marked i)

  none_marked : (n : ℕ) → ((i : ℕ) → i < n → bit area i ≡ false) → starts_true (assigned area) n ≡ 0
  none_marked zero f = refl
  none_marked (suc n) f = one_more n ∙ ap (λ b. cond b 1 0 + starts_true (assigned area) n) (f n (omega arith)) ∙ omega (arith, none_marked n (λ i c. f i (omega arith)))

  grows : (m d : ℕ) → starts_true (assigned area) m ≤ starts_true (assigned area) (d + m)
  grows m zero = let z : 0 + m ≡ m = omega arith in omega (arith, ap (starts_true (assigned area)) z)
  grows m (suc d) =
      let z : suc d + m ≡ suc (d + m) = omega arith in
      omega (arith, grows m d, ap (starts_true (assigned area)) z, one_more (d + m))

  counted : (i : ℕ) → bit area i ≡ true → starts_true (assigned area) (suc i) ≡ 1 + starts_true (assigned area) i
  counted i e = one_more i ∙ ap (λ b. cond b 1 0 + starts_true (assigned area) i) e

  -- two that are marked
  two_marked : (n p q : ℕ) → p < q → q < n → bit area p ≡ true → bit area q ≡ true → 2 ≤ starts_true (assigned area) n
  two_marked n p q c d e f =
      let a = counted p e in
      let b = counted q f in
      let y : (q - suc p) + suc p ≡ q = omega arith in
      let z : (n - suc q) + suc q ≡ n = omega arith in
      omega (arith, a, b, grows (suc p) (q - suc p), ap (starts_true (assigned area)) y, grows (suc q) (n - suc q), ap (starts_true (assigned area)) z)

-- what the first n bytes are searched for: the first 1, and another after it
module _ (area : List ℕ) (n : ℕ) (h : n ≤ length area) where
  abbrev pub Found : Option ℕ → Type 0
  Found o = o ≡ cond (eqb (starts_true (assigned area) n) 1) (Some (start_below (assigned area) n)) None

  not_one : (starts_true (assigned area) n ≡ 1 → ⊥) → Found None
  not_one f = sym (ap (λ b. cond b (Some (start_below (assigned area) n)) None) (ne_eqb (starts_true (assigned area) n) 1 f))

  abbrev pub rest : ℕ → List ℕ
  rest p = take (length (take n area) - (p + 1)) (drop (p + 1) (take n area))

  long : length (take n area) ≡ n
  long = length-take-le n area h

  at : (i : ℕ) → i < n → get_or (take n area) i 0 ≡ get_or area i 0
  at i c = get_or-take n area i 0 c

  length_rest : (p : ℕ) → p < n → length (rest p) ≡ n - (p + 1)
  length_rest p c =
      let m = length (take n area) - (p + 1) in
      let w : m ≤ length (drop (p + 1) (take n area)) = omega (arith, length-drop (p + 1) (take n area)) in
      omega (arith, length-take-le m (drop (p + 1) (take n area)) w, long)

  later : (p i : ℕ) → p < n → i < length (rest p) → (p + 1 + i < n) × (get_or (rest p) i 0 ≡ get_or area (p + 1 + i) 0)
  later p i c d =
      let m = length (take n area) - (p + 1) in
      let w : m ≤ length (drop (p + 1) (take n area)) = omega (arith, length-drop (p + 1) (take n area)) in
      let z : i < m = omega (arith, length-take-le m (drop (p + 1) (take n area)) w) in
      (omega (arith, long), get_or-take m (drop (p + 1) (take n area)) i 0 z ∙ get_or-drop (p + 1) (take n area) i 0 ∙ at (p + 1 + i) (omega (arith, long)))

  pub no_start : AllWithin (λ b. b ≡ 1 → ⊥) (take n area) 0 (length (take n area)) → Found None
  no_start f = not_one (λ e. let z = none_marked area n (λ i c. ne_eqb (get_or area i 0) 1 (λ q. f i 0 (omega arith) (omega (arith, long)) (at i c ∙ q))) in omega arith)

  module _ (p : ℕ) (inside : p < length (take n area)) (here : HoldsAt (λ b. b ≡ 1) (take n area) p) where
    low : p < n
    low = omega (arith, long)

    on : bit area p ≡ true
    on = eq-eqb (get_or area p 0) 1 (sym (at p low) ∙ here 0)

    pub two_starts : (i : ℕ) × (i < length (rest p)) × HoldsAt (λ b. eqb b 1 ≡ true) (rest p) i → Found None
    two_starts t =
        let z = later p t.0 low t.1 in
        not_one (λ e. let w = two_marked area n p (p + 1 + t.0) (omega arith) z.0 on (ap (λ b. eqb b 1) (sym z.1) ∙ t.2 0) in omega (arith, w))

    pub one_start_only : AllWithin (λ b. b ≡ 1 → ⊥) (take n area) 0 p → AllWithin (λ b. eqb b 1 ≡ false) (rest p) 0 (length (rest p)) → Found (Some p)
    one_start_only f g =
        let o = one_start (assigned area) p n low (λ i c. marked area i ∙ alike i c) in
        sym (ap (λ b. cond b (Some (start_below (assigned area) n)) None) (eq-eqb (starts_true (assigned area) n) 1 o.0) ∙ ap Some o.1)
      where
        after : (i : ℕ) → p < i → i < n → bit area i ≡ false
        after i c d =
            let z : p + 1 + (i - (p + 1)) ≡ i = omega arith in
            let w = length_rest p low in
            let k : i - (p + 1) < length (rest p) = omega (arith, w) in
            ap (λ j. bit area j) (sym z) ∙ ap (λ b. eqb b 1) (sym (later p (i - (p + 1)) low k).1) ∙ g (i - (p + 1)) 0 (omega arith) k

        alike : (i : ℕ) → i < n → bit area i ≡ eqb p i
        alike i c = ⊎_elim (λ e. subst (λ j. bit area j ≡ eqb p j) (sym e) (on ∙ sym (eq-eqb p p refl)))
            (λ f'. ⊎_elim (λ b. ne_eqb (get_or area i 0) 1 (λ q. f i 0 (omega arith) b (at i c ∙ q)) ∙ sym (ne_eqb p i (λ q. omega arith))) (λ b. after i b c ∙ sym (ne_eqb p i (λ q. omega arith))) f')
            (cases_order i p)
