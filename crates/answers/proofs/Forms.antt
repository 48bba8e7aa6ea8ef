-- Proof of the law of v lines.
use Rattle.std.proofs.Common.{◌≡◌, ℕ, ◌+◌, ◌-◌, ◌*◌, ◌/◌, ◌%◌, ◌<◌, ◌≤◌, Bool, true, false, cond, eqb, leb, List, [], ◌∷◌, ◌++◌, map, length, get_or, Some, None, Option, sym, refl, ap, ◌∙◌, subst, ⊎_elim, append_assoc, append-nil, arith}
use Rattle.std.specs.Int.Digits.{digits_of, number_from_digits_after}
use Rattle.std.specs.List.{AllByRecursion}
use Rattle.std.specs.Str.{bytes_eq}
use Rattle.std.proofs.lemmas.Int.Digits.{digits_of_step, all_below_base_digits_of, first_digits_of, number_digits_of}
use Rattle.std.proofs.lemmas.Slice.Eq.{bytes_eq-Decides}
use Rattle.std.proofs.lemmas.Bool.{cond-true, cond-false, eq-eqb, ne_eqb, le-leb, and_from, and_parts, leb-true, cases_eq, eqb-true, eqb-false, both_ways}
use Rattle.cnf.specs.declared.clause.Literal.{Literal}
use Rattle.text.specs.Split.{words}
use Rattle.text.specs.Laws.{Free, blank_before}
use Rattle.text.proofs.Pieces.{words_law}
use Rattle.answers.specs.Words.{digit, tens, zero_only, numeral, plus, minus, number}
use Rattle.answers.specs.Reading.{front, each, after_v}
use Rattle.answers.specs.Grammar.{decimal, shown, v_line}
use Rattle.answers.specs.Laws.{Proper, LineLaw}

-- digits: d is written 48 + d
abbrev Under : List ℕ → Type 0
Under ds = AllByRecursion (λ d. d < 10) ds

abbrev text : List ℕ → List ℕ
text ds = map (λ d. 48 + d) ds

pub none_some : {A : Type 0} (x : A) → None ≡ Some x → ⊥
none_some x e = cc

tens_text : (ds : List ℕ) (n : ℕ) → Under ds → tens (text ds) n ≡ Some (number_from_digits_after 10 n ds)
tens_text [] n u = refl
tens_text (d ∷ ds) n u =
    let l : d < 10 = u.0 in
    let e : 10 * n + (48 + d - 48) ≡ n * 10 + d = omega arith in
    cond-true (digit (48 + d)) (tens (text ds) (10 * n + (48 + d - 48))) None (and_from _ _ (le-leb 48 (48 + d) (omega arith)) (le-leb (48 + d) 57 (omega arith)))
    ∙ ap (tens (text ds)) e ∙ tens_text ds (n * 10 + d) u.1

-- what tens reads are digits
tens_only : (cs : List ℕ) (n m : ℕ) → tens cs n ≡ Some m → (ds : List ℕ) × (cs ≡ text ds) × Under ds × (m ≡ number_from_digits_after 10 n ds)
tens_only [] n m e = ([], refl, tt, cc)
tens_only (c ∷ cs) n m e = at (digit c) refl (tens_only cs (10 * n + (c - 48)) m)
  where
    at : (b : Bool) → digit c ≡ b → (tens cs (10 * n + (c - 48)) ≡ Some m → (ds : List ℕ) × (cs ≡ text ds) × Under ds × (m ≡ number_from_digits_after 10 (10 * n + (c - 48)) ds)) → (ds : List ℕ) × (c ∷ cs ≡ text ds) × Under ds × (m ≡ number_from_digits_after 10 n ds)
    at true t h =
        let p = and_parts (leb 48 c) (leb c 57) t in
        let low : 48 ≤ c = leb-true 48 c p.0 in
        let top : c ≤ 57 = leb-true c 57 p.1 in
        let back : c ≡ 48 + (c - 48) = omega arith in
        let r = h (sym (cond-true (digit c) (tens cs (10 * n + (c - 48))) None t) ∙ e) in
        let k : 10 * n + (c - 48) ≡ n * 10 + (c - 48) = omega arith in
        let l : c - 48 < 10 = omega arith in
        ((c - 48) ∷ r.0, ap (λ x. x ∷ cs) back ∙ ap (λ x. (48 + (c - 48)) ∷ x) r.1, (l, r.2), r.3 ∙ ap (λ x. number_from_digits_after 10 x r.0) k)
    at false t h = absurd (none_some m (sym (cond-false (digit c) (tens cs (10 * n + (c - 48))) None t) ∙ e))

digits_of_after : (ds : List ℕ) (n : ℕ) → 0 < n → Under ds → digits_of 10 (number_from_digits_after 10 n ds) ≡ digits_of 10 n ++ ds
digits_of_after [] n p u = sym (append-nil (digits_of 10 n))
digits_of_after (d ∷ ds) n p u =
    let l : d < 10 = u.0 in
    let q : 0 < n * 10 + d = omega arith in
    let e : (n * 10 + d) / 10 ≡ n = omega arith in
    let r : (n * 10 + d) % 10 ≡ d = omega arith in
    let two : 2 ≤ 10 = omega arith in
    digits_of_after ds (n * 10 + d) q u.1
    ∙ ap (λ l. l ++ ds) (digits_of_step 10 (n * 10 + d) two q ∙ ap (λ k. digits_of 10 k ++ ((n * 10 + d) % 10 ∷ [])) e ∙ ap (λ k. digits_of 10 n ++ (k ∷ [])) r)
    ∙ append_assoc (digits_of 10 n) (d ∷ []) ds

digits_of_number : (d : ℕ) (ds : List ℕ) → 0 < d → Under (d ∷ ds) → digits_of 10 (number_from_digits_after 10 0 (d ∷ ds)) ≡ d ∷ ds
digits_of_number d ds p u =
    let l : d < 10 = u.0 in
    let z : 0 * 10 + d ≡ d = omega arith in
    let two : 2 ≤ 10 = omega arith in
    let e : d / 10 ≡ 0 = omega arith in
    let r : d % 10 ≡ d = omega arith in
    ap (λ k. digits_of 10 (number_from_digits_after 10 k ds)) z
    ∙ digits_of_after ds d p u.1
    ∙ ap (λ l. l ++ ds) (digits_of_step 10 d two p ∙ ap (λ k. digits_of 10 k ++ (d % 10 ∷ [])) e ∙ ap (λ k. k ∷ []) r)

-- a numeral is just what decimal writes
numeral_text : (ds : List ℕ) → Under ds → 0 < get_or ds 0 0 → numeral (text ds) ≡ Some (number_from_digits_after 10 0 ds)
numeral_text [] u p = absurd (omega arith)
numeral_text (d ∷ ds) u p = cond-false (eqb (48 + d) 48) (zero_only (text ds)) (tens (text (d ∷ ds)) 0) (ne_eqb (48 + d) 48 (λ z. omega (arith, z))) ∙ tens_text (d ∷ ds) 0 u

numeral-decimal : (n : ℕ) → numeral (decimal n) ≡ Some n
numeral-decimal n = ⊎_elim nought more (cases_eq n 0)
  where
    nought : n ≡ 0 → numeral (decimal n) ≡ Some n
    nought z = ap (λ k. numeral (decimal k)) z ∙ ap Some (sym z)

    more : (n ≡ 0 → ⊥) → numeral (decimal n) ≡ Some n
    more z =
        let two : 2 ≤ 10 = omega arith in
        let p : 0 < n = omega (arith, z) in
        ap numeral (cond-false (eqb n 0) (48 ∷ []) (text (digits_of 10 n)) (ne_eqb n 0 z))
        ∙ numeral_text (digits_of 10 n) (all_below_base_digits_of 10 n two) (first_digits_of 10 n two p)
        ∙ ap Some (number_digits_of 10 n two)

numeral_only : (cs : List ℕ) (n : ℕ) → numeral cs ≡ Some n → cs ≡ decimal n
numeral_only [] n e = absurd (none_some n e)
numeral_only (c ∷ cs) n e = at (eqb c 48) refl
  where
    zero_is : (l : List ℕ) → zero_only l ≡ Some n → (l ≡ []) × (n ≡ 0)
    zero_is [] q = (refl, cc)
    zero_is (x ∷ xs) q = absurd (none_some n q)

    from_text : (ds : List ℕ) → (c ≡ 48 → ⊥) → c ∷ cs ≡ text ds → Under ds → n ≡ number_from_digits_after 10 0 ds → c ∷ cs ≡ decimal n
    from_text [] z q u m = absurd (cc)
    from_text (d ∷ ds) z q u m =
        let f : c ≡ 48 + d = cc in
        let p : 0 < d = omega (arith, λ (y : d ≡ 0). z (omega (arith, y))) in
        let g : digits_of 10 n ≡ d ∷ ds = ap (digits_of 10) m ∙ digits_of_number d ds p u in
        let some : n ≡ 0 → ⊥ = λ y. let h : [] ≡ d ∷ ds = sym (ap (digits_of 10) y) ∙ g in let o : ◌≡◌ {A = ℕ} 0 1 = cc in omega arith in
        q ∙ sym (cond-false (eqb n 0) (48 ∷ []) (text (digits_of 10 n)) (ne_eqb n 0 some) ∙ ap text g)

    at : (b : Bool) → eqb c 48 ≡ b → c ∷ cs ≡ decimal n
    at true t =
        let r = zero_is cs (sym (cond-true (eqb c 48) (zero_only cs) (tens (c ∷ cs) 0) t) ∙ e) in
        ap (λ x. x ∷ cs) (eqb-true c 48 t) ∙ ap (λ l. 48 ∷ l) r.0 ∙ sym (ap decimal r.1)
    at false t =
        let r = tens_only (c ∷ cs) 0 n (sym (cond-false (eqb c 48) (zero_only cs) (tens (c ∷ cs) 0) t) ∙ e) in
        from_text r.0 (eqb-false c 48 t) r.1 r.2 r.3

-- a number is just what shown writes
number_of : (cs : List ℕ) (k : ℕ) → numeral cs ≡ Some k → number cs ≡ plus (Some k)
number_of [] k e = absurd (none_some k e)
number_of (c ∷ cs) k e = at (eqb c 45) refl
  where
    at : (b : Bool) → eqb c 45 ≡ b → number (c ∷ cs) ≡ plus (Some k)
    at true t = absurd (none_some k (sym (ap (λ b. numeral (b ∷ cs)) (eqb-true c 45 t)) ∙ e))
    at false t = cond-false (eqb c 45) (minus (numeral cs)) (plus (numeral (c ∷ cs))) t ∙ ap plus e

number-shown : (n : Literal) → Proper n → number (shown n) ≡ Some n
number-shown n p = at n.positive refl
  where
    at : (b : Bool) → n.positive ≡ b → number (shown n) ≡ Some n
    at true t =
        ap number (cond-true n.positive (decimal n.variable) (45 ∷ decimal n.variable) t)
        ∙ number_of (decimal n.variable) n.variable (numeral-decimal n.variable)
        ∙ ap (λ b. Some (record { positive = b; variable = n.variable })) (sym t)
    at false t =
        ap number (cond-false n.positive (decimal n.variable) (45 ∷ decimal n.variable) t)
        ∙ ap minus (numeral-decimal n.variable)
        ∙ cond-false (eqb n.variable 0) None (Some (record { positive = false; variable = n.variable })) (ne_eqb n.variable 0 (λ z. omega (arith, z, p t)))
        ∙ ap (λ b. Some (record { positive = b; variable = n.variable })) (sym t)

number_only : (w : List ℕ) (n : Literal) → number w ≡ Some n → (w ≡ shown n) × Proper n
number_only [] n e = absurd (none_some n e)
number_only (c ∷ cs) n e = at (eqb c 45) refl
  where
    plain : (o : Option ℕ) → numeral (c ∷ cs) ≡ o → plus o ≡ Some n → (c ∷ cs ≡ shown n) × Proper n
    plain None q r = absurd (none_some n r)
    plain (Some k) q r =
        let s : n.variable ≡ k = cc in
        let b : n.positive ≡ true = cc in (
          numeral_only (c ∷ cs) k q ∙ ap decimal (sym s) ∙ sym (cond-true n.positive (decimal n.variable) (45 ∷ decimal n.variable) b),
          λ f. absurd (both_ways n.positive f b),
        )

    signed : (o : Option ℕ) → numeral cs ≡ o → minus o ≡ Some n → c ≡ 45 → (c ∷ cs ≡ shown n) × Proper n
    signed None q r z = absurd (none_some n r)
    signed (Some k) q r z = ⊎_elim nought more (cases_eq k 0)
      where
        nought : k ≡ 0 → (c ∷ cs ≡ shown n) × Proper n
        nought y = absurd (none_some n (sym (cond-true (eqb k 0) None (Some (record { positive = false; variable = k })) (eq-eqb k 0 y)) ∙ r))

        more : (k ≡ 0 → ⊥) → (c ∷ cs ≡ shown n) × Proper n
        more y =
            let i : Some (record { positive = false; variable = k }) ≡ Some n = sym (cond-false (eqb k 0) None (Some (record { positive = false; variable = k })) (ne_eqb k 0 y)) ∙ r in
            let s : n.variable ≡ k = cc in
            let b : n.positive ≡ false = cc in (
              ap (λ x. x ∷ cs) z ∙ ap (λ l. 45 ∷ l) (numeral_only cs k q ∙ ap decimal (sym s)) ∙ sym (cond-false n.positive (decimal n.variable) (45 ∷ decimal n.variable) b),
              λ f. omega (arith, s, y),
            )

    at : (b : Bool) → eqb c 45 ≡ b → (c ∷ cs ≡ shown n) × Proper n
    at true t = signed (numeral cs) refl (sym (cond-true (eqb c 45) (minus (numeral cs)) (plus (numeral (c ∷ cs))) t) ∙ e) (eqb-true c 45 t)
    at false t = plain (numeral (c ∷ cs)) refl (sym (cond-false (eqb c 45) (minus (numeral cs)) (plus (numeral (c ∷ cs))) t) ∙ e)

each-shown : (ns : List Literal) → AllByRecursion Proper ns → each (map shown ns) ≡ Some ns
each-shown [] p = refl
each-shown (n ∷ ns) p = ap (λ o. front o (each (map shown ns))) (number-shown n p.0) ∙ ap (front (Some n)) (each-shown ns p.1)

each_only : (ws : List (List ℕ)) (ns : List Literal) → each ws ≡ Some ns → (ws ≡ map shown ns) × AllByRecursion Proper ns
each_only [] ns e =
    let q : [] ≡ ns = cc in
    subst (λ l. (◌≡◌ {A = List (List ℕ)} [] (map shown l)) × AllByRecursion Proper l) q (refl, tt)
each_only (w ∷ ws) ns e = at (number w) (each ws) refl refl e (each_only ws)
  where
    at : (o : Option Literal) (p : Option (List Literal)) → number w ≡ o → each ws ≡ p → front o p ≡ Some ns → ((ms : List Literal) → each ws ≡ Some ms → (ws ≡ map shown ms) × AllByRecursion Proper ms) → (w ∷ ws ≡ map shown ns) × AllByRecursion Proper ns
    at None p f g h k = absurd (none_some ns h)
    at (Some x) None f g h k = absurd (none_some ns h)
    at (Some x) (Some ms) f g h k =
        let q : x ∷ ms ≡ ns = cc in
        let a = number_only w x f in
        let b = k ms g in
        subst (λ l. (w ∷ ws ≡ map shown l) × AllByRecursion Proper l) q (ap (λ y. y ∷ ws) a.0 ∙ ap (λ l. shown x ∷ l) b.0, (a.1, b.1))

-- no character before the minus, as a blank or a line feed, stands in a number
module _ (mark : ℕ) (low : mark < 45) where
  free_text : (ds : List ℕ) → Free mark (text ds)
  free_text [] = tt
  free_text (d ∷ ds) = (λ z. omega (arith, z), free_text ds)

  free_decimal : (n : ℕ) → Free mark (decimal n)
  free_decimal n = at (eqb n 0)
    where
      at : (b : Bool) → Free mark (cond b (48 ∷ []) (text (digits_of 10 n)))
      at true = (λ z. omega (arith, z), tt)
      at false = free_text (digits_of 10 n)

  pub free_shown : (ns : List Literal) → AllByRecursion (Free mark) (map shown ns)
  free_shown [] = tt
  free_shown (n ∷ ns) = (at n.positive, free_shown ns)
    where
      at : (b : Bool) → Free mark (cond b (decimal n.variable) (45 ∷ decimal n.variable))
      at true = free_decimal n.variable
      at false = (λ z. omega (arith, z), free_decimal n.variable)

words-v_line : (ns : List Literal) → words (v_line ns) ≡ (118 ∷ []) ∷ map shown ns
words-v_line ns = words_law.only (118 ∷ []) (map shown ns) ((λ z. omega (arith, z), tt), free_shown 32 (omega arith) ns)

pub reads_law : (ns : List Literal) → 0 < length ns → AllByRecursion Proper ns → after_v (words (v_line ns)) ≡ Some ns
reads_law [] h p = absurd (omega arith)
reads_law (n ∷ ns) h p = ap after_v (words-v_line (n ∷ ns)) ∙ each-shown (n ∷ ns) p

pub only_law : (l : List ℕ) (ns : List Literal) → after_v (words l) ≡ Some ns → (l ≡ v_line ns) × (0 < length ns) × AllByRecursion Proper ns
only_law l ns e = let m = words_law.made l in at m.0 m.1 m.3 (sym (ap after_v m.2) ∙ e)
  where
    long : (w : List ℕ) (ws : List (List ℕ)) (ms : List Literal) → w ∷ ws ≡ map shown ms → 0 < length ms
    long w ws [] q = absurd (cc)
    long w ws (m ∷ ms) q = omega arith

    at : (v : List ℕ) (ws : List (List ℕ)) → l ≡ v ++ blank_before ws → after_v (v ∷ ws) ≡ Some ns → (l ≡ v_line ns) × (0 < length ns) × AllByRecursion Proper ns
    at v [] q h = absurd (none_some ns h)
    at v (w ∷ ws) q h = by (bytes_eq v (118 ∷ [])) refl
      where
        by : (b : Bool) → bytes_eq v (118 ∷ []) ≡ b → (l ≡ v_line ns) × (0 < length ns) × AllByRecursion Proper ns
        by true t =
            let r = each_only (w ∷ ws) ns (sym (cond-true (bytes_eq v (118 ∷ [])) (each (w ∷ ws)) None t) ∙ h) in (
              q ∙ ap (λ x. x ++ blank_before (w ∷ ws)) ((bytes_eq-Decides v (118 ∷ [])).0 t) ∙ ap (λ x. 118 ∷ blank_before x) r.0,
              long w ws ns r.0,
              r.1,
            )
        by false t = absurd (none_some ns (sym (cond-false (bytes_eq v (118 ∷ [])) (each (w ∷ ws)) None t) ∙ h))

pub line_law : LineLaw
line_law = record { reads = reads_law; only = only_law }
