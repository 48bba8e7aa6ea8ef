-- What literals give: proof of the laws of their variables and values.
use Rattle.std.proofs.Common.{◌≡◌, ℕ, zero, suc, ◌-◌, ◌<◌, ◌≤◌, Bool, true, false, cond, not, ◌&&◌, eqb, leb, List, [], ◌∷◌, ◌++◌, length, get_or, is_some, Some, sym, refl, ap, ◌∙◌, ⊎_elim, append_assoc, arith}
use Rattle.std.specs.List.{AllByRecursion}
use Rattle.std.proofs.lemmas.List.{length-append, get_or_at}
use Rattle.std.proofs.lemmas.Bool.{and_parts, and_from, cond-true, cond-false, eq-eqb, ne_eqb, eqb-true, eqb-false, le-leb, leb-true, not-true, both_ways, cases_eq}
use Rattle.cnf.specs.Clauses.{truth, within}
use Rattle.cnf.specs.declared.clause.Literal.{Literal}
use Rattle.sinks.specs.Models.{assigned}
use Rattle.answers.specs.Values.{value, given, fresh, complete, bit, bytes}
use Rattle.answers.specs.Grammar.{Distinct, Sound, Named, Total}
use Rattle.answers.specs.Meaning.{MakesTrue}
use Rattle.answers.specs.Laws.{SoundLaw, TotalLaw, ValuesLaw}

-- a variable that is not given, and one that is
none_named : (ns : List Literal) (x : ℕ) → given ns x ≡ false → AllByRecursion (λ m. m.variable ≡ x → ⊥) ns
none_named [] x g = tt
none_named (n ∷ ns) x g = at (eqb n.variable x) refl (none_named ns x)
  where
    at : (b : Bool) → eqb n.variable x ≡ b → (given ns x ≡ false → AllByRecursion (λ m. m.variable ≡ x → ⊥) ns) → AllByRecursion (λ m. m.variable ≡ x → ⊥) (n ∷ ns)
    at true t h = absurd (both_ways (given (n ∷ ns) x) g (ap is_some (cond-true (eqb n.variable x) (Some n.positive) (value ns x) t)))
    at false t h = (eqb-false n.variable x t, h (sym (ap is_some (cond-false (eqb n.variable x) (Some n.positive) (value ns x) t)) ∙ g))

not_given : (ns : List Literal) (x : ℕ) → AllByRecursion (λ m. m.variable ≡ x → ⊥) ns → given ns x ≡ false
not_given [] x a = refl
not_given (n ∷ ns) x a = ap is_some (cond-false (eqb n.variable x) (Some n.positive) (value ns x) (ne_eqb n.variable x a.0)) ∙ not_given ns x a.1

named : (ns : List Literal) (x : ℕ) → given ns x ≡ true → Named x ns
named [] x g = absurd (both_ways false refl g)
named (n ∷ ns) x g = at (eqb n.variable x) refl (named ns x)
  where
    at : (b : Bool) → eqb n.variable x ≡ b → (given ns x ≡ true → Named x ns) → Named x (n ∷ ns)
    at true t h = ([], ns, n, refl, eqb-true n.variable x t)
    at false t h =
        let r = h (sym (ap is_some (cond-false (eqb n.variable x) (Some n.positive) (value ns x) t)) ∙ g) in
        (n ∷ r.0, r.1, r.2, ap (λ l. n ∷ l) r.3, r.4)

given_among : (front back : List Literal) (n : Literal) (x : ℕ) → n.variable ≡ x → given (front ++ n ∷ back) x ≡ true
given_among [] back n x e = ap is_some (cond-true (eqb n.variable x) (Some n.positive) (value back x) (eq-eqb n.variable x e))
given_among (m ∷ front) back n x e = at (eqb m.variable x) (given_among front back n x e)
  where
    at : (b : Bool) → given (front ++ n ∷ back) x ≡ true → is_some (cond b (Some m.positive) (value (front ++ n ∷ back) x)) ≡ true
    at true h = refl
    at false h = h

is_given : (ns : List Literal) (x : ℕ) → Named x ns → given ns x ≡ true
is_given ns x p = ap (λ l. given l x) p.3 ∙ given_among p.0 p.1 p.2 x p.4

-- question 47
sound : (v : ℕ) (ns : List Literal) → fresh v ns ≡ true → Sound v ns
sound v [] f = (tt, tt)
sound v (n ∷ ns) f =
    let p = and_parts (within v n && not (given ns n.variable)) (fresh v ns) f in
    let q = and_parts (within v n) (not (given ns n.variable)) p.0 in
    let r = and_parts (leb 1 n.variable) (leb n.variable v) q.0 in
    let s = sound v ns p.1 in (
      ((leb-true 1 n.variable r.0, leb-true n.variable v r.1), s.0),
      (none_named ns n.variable (not-true (given ns n.variable) q.1), s.1),
    )

is_fresh : (v : ℕ) (ns : List Literal) → Sound v ns → fresh v ns ≡ true
is_fresh v [] s = refl
is_fresh v (n ∷ ns) s =
    and_from (within v n && not (given ns n.variable)) (fresh v ns)
    (and_from (within v n) (not (given ns n.variable))
    (and_from (leb 1 n.variable) (leb n.variable v) (le-leb 1 n.variable s.0.0.0) (le-leb n.variable v s.0.0.1))
    (ap not (not_given ns n.variable s.1.0)))
    (is_fresh v ns (s.0.1, s.1.1))

pub sound_law : SoundLaw
sound_law v lits = (sound v lits, is_fresh v lits)

-- question 48
total : (v : ℕ) (ns : List Literal) → complete v ns ≡ true → Total v ns
total zero ns e x l h = absurd (omega arith)
total (suc v) ns e x l h =
    let p = and_parts (given ns (suc v)) (complete v ns) e in
    ⊎_elim (λ z. named ns x (ap (given ns) z ∙ p.0)) (λ z. total v ns p.1 x l (omega (arith, z))) (cases_eq x (suc v))

is_complete : (v : ℕ) (ns : List Literal) → Total v ns → complete v ns ≡ true
is_complete zero ns t = refl
is_complete (suc v) ns t =
    and_from (given ns (suc v)) (complete v ns) (is_given ns (suc v) (t (suc v) (omega arith) (omega arith))) (is_complete v ns (λ x l h. t x l (omega arith)))

pub total_law : TotalLaw
total_law v lits = (total v lits, is_complete v lits)

-- the values
abbrev Agrees : List Literal → Literal → Type 0
Agrees ns n = value ns n.variable ≡ Some n.positive

-- m before literals, none of which has its variable
under : (m : Literal) (ms ns : List Literal) → AllByRecursion (λ n. n.variable ≡ m.variable → ⊥) ns → AllByRecursion (Agrees ms) ns → AllByRecursion (Agrees (m ∷ ms)) ns
under m ms [] d h = tt
under m ms (n ∷ ns) d h = (
  cond-false (eqb m.variable n.variable) (Some m.positive) (value ms n.variable) (ne_eqb m.variable n.variable (λ e. d.0 (sym e))) ∙ h.0,
  under m ms ns d.1 h.1,
)

each_literal : (ns : List Literal) → Distinct ns → AllByRecursion (Agrees ns) ns
each_literal [] d = tt
each_literal (m ∷ ms) d = (
  cond-true (eqb m.variable m.variable) (Some m.positive) (value ms m.variable) (eq-eqb m.variable m.variable refl),
  under m ms ms d.0 (each_literal ms d.1),
)

-- the bytes
length-bytes : (v : ℕ) (ns : List Literal) → length (bytes v ns) ≡ v
length-bytes zero ns = refl
length-bytes (suc v) ns = length-append (bytes v ns) (bit (value ns (suc v)) ∷ []) ∙ omega (arith, length-bytes v ns)

each_byte : (v : ℕ) (ns : List Literal) (rest : List ℕ) (i : ℕ) → i < v → get_or (bytes v ns ++ rest) i 0 ≡ bit (value ns (suc i))
each_byte zero ns rest i l = absurd (omega arith)
each_byte (suc v) ns rest i l =
    let b = bit (value ns (suc v)) in
    ap (λ l. get_or l i 0) (append_assoc (bytes v ns) (b ∷ []) rest)
    ∙ ⊎_elim
    (λ z. get_or_at (bytes v ns) b rest 0 i (length-bytes v ns ∙ sym z) ∙ ap (λ j. bit (value ns (suc j))) (sym z))
    (λ z. each_byte v ns (b ∷ rest) i (omega (arith, z)))
    (cases_eq i v)

-- a byte that says what the literal says makes it true
true_by : (area : List ℕ) (n : Literal) → get_or area (n.variable - 1) 0 ≡ bit (Some n.positive) → truth (assigned area) n ≡ true
true_by area n e = at n.positive refl
  where
    reads : (b : Bool) → eqb (bit (Some b)) 1 ≡ b
    reads true = refl
    reads false = refl

    at : (b : Bool) → n.positive ≡ b → truth (assigned area) n ≡ true
    at true t =
        cond-true n.positive (assigned area n.variable) (not (assigned area n.variable)) t
        ∙ ap (λ k. eqb k 1) e ∙ reads n.positive ∙ t
    at false t =
        cond-false n.positive (assigned area n.variable) (not (assigned area n.variable)) t
        ∙ ap not (ap (λ k. eqb k 1) e ∙ reads n.positive ∙ t)

all_true : (v : ℕ) (lits : List Literal) (rest : List ℕ) → Sound v lits → MakesTrue (bytes v lits ++ rest) lits
all_true v lits rest s = each lits s.0 (each_literal lits s.1)
  where
    each : (ns : List Literal) → AllByRecursion (λ n. (1 ≤ n.variable) × (n.variable ≤ v)) ns → AllByRecursion (Agrees lits) ns → MakesTrue (bytes v lits ++ rest) ns
    each [] a h = tt
    each (n ∷ ns) a h =
        let low : 1 ≤ n.variable = a.0.0 in
        let high : n.variable ≤ v = a.0.1 in
        let back : suc (n.variable - 1) ≡ n.variable = omega arith in (
          true_by (bytes v lits ++ rest) n
              (each_byte v lits rest (n.variable - 1) (omega arith) ∙ ap (λ k. bit (value lits k)) back ∙ ap bit h.0),
          each ns a.1 h.1,
        )

pub values_law : ValuesLaw
values_law = record { each_literal = λ v lits s. each_literal lits s.1; each_byte = each_byte; all_true = all_true }
