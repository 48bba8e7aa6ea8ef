-- Proof of the law of the literals of the v lines.
use Rattle.std.proofs.Common.{◌≡◌, ℕ, ◌<◌, Bool, true, false, eqb, List, [], ◌∷◌, ◌++◌, map, length, Some, None, Option, sym, refl, ap, ◌∙◌, subst, ⊎_elim, arith}
use Rattle.std.specs.List.{flat_map, AllByRecursion}
use Rattle.std.proofs.ByRecursion.{All-append, All-weaker}
use Rattle.std.proofs.lemmas.Bool.{cond-true, cond-false, eq-eqb, ne_eqb, cases_eq, both_ways}
use Rattle.cnf.specs.declared.clause.Literal.{Literal}
use Rattle.text.specs.Split.{words}
use Rattle.answers.specs.Reading.{front, join, after_v, numbers, closed, close, literals}
use Rattle.answers.specs.Grammar.{v_line, nought, Written}
use Rattle.answers.specs.Laws.{Proper, LiteralsLaw}
use Rattle.answers.proofs.Forms.{none_some, reads_law, only_law}

abbrev flat : List (List Literal) → List Literal
flat gs = flat_map (λ ns. ns) gs

all_parts : (P : Literal → Type 0) (xs ys : List Literal) → AllByRecursion P (xs ++ ys) → AllByRecursion P xs × AllByRecursion P ys
all_parts P [] ys h = (tt, h)
all_parts P (x ∷ xs) ys h = let r = all_parts P xs ys h.1 in ((h.0, r.0), r.1)

numbers-written : (gs : List (List Literal)) → AllByRecursion (λ ns. 0 < length ns) gs → AllByRecursion Proper (flat gs) → numbers (map v_line gs) ≡ Some (flat gs)
numbers-written [] s p = refl
numbers-written (g ∷ gs) s p =
    let r = all_parts Proper g (flat gs) p in
    ap (λ o. join o (numbers (map v_line gs))) (reads_law g s.0 r.0) ∙ ap (join (Some g)) (numbers-written gs s.1 r.1)

closed-written : (lits : List Literal) → AllByRecursion (λ n. 0 < n.variable) lits → closed (lits ++ nought ∷ []) ≡ Some lits
closed-written [] h = refl
closed-written (n ∷ []) h = cond-false (eqb n.variable 0) None (front (Some n) (closed (nought ∷ []))) (ne_eqb n.variable 0 (λ z. omega (arith, z, h.0)))
closed-written (n ∷ m ∷ ns) h =
    cond-false (eqb n.variable 0) None (front (Some n) (closed (m ∷ ns ++ nought ∷ []))) (ne_eqb n.variable 0 (λ z. omega (arith, z, h.0)))
    ∙ ap (front (Some n)) (closed-written (m ∷ ns) h.1)

reads : (ls : List (List ℕ)) (lits : List Literal) → Written ls lits → literals ls ≡ Some lits
reads ls lits w =
    let p : AllByRecursion Proper (flat w.groups) = subst (AllByRecursion Proper) (sym w.together) (All-append Proper lits (nought ∷ []) (All-weaker (λ n. 0 < n.variable) Proper (λ n h e. h) lits w.no_zero) ((λ e. absurd (both_ways true e refl)), tt)) in
    ap literals w.each_line ∙ ap close (numbers-written w.groups w.each_some p ∙ ap Some w.together) ∙ closed-written lits w.no_zero

-- the groups of lines that are read
record Groups (ls : List (List ℕ)) (ns : List Literal) : Type 0 where
  parts : List (List Literal)
  lines_are : ls ≡ map v_line parts
  some : AllByRecursion (λ g. 0 < length g) parts
  whole : flat parts ≡ ns
  proper : AllByRecursion Proper ns

groups : (ls : List (List ℕ)) (ns : List Literal) → numbers ls ≡ Some ns → Groups ls ns
groups [] ns e = let q : [] ≡ ns = cc in subst (Groups []) q (record { parts = []; lines_are = refl; some = tt; whole = refl; proper = tt })
groups (l ∷ ls) ns e = at (after_v (words l)) (numbers ls) refl refl e (groups ls)
  where
    at : (o p : Option (List Literal)) → after_v (words l) ≡ o → numbers ls ≡ p → join o p ≡ Some ns → ((ms : List Literal) → numbers ls ≡ Some ms → Groups ls ms) → Groups (l ∷ ls) ns
    at None p f g h k = absurd (none_some ns h)
    at (Some xs) None f g h k = absurd (none_some ns h)
    at (Some xs) (Some ms) f g h k =
        let q : xs ++ ms ≡ ns = cc in
        let a = only_law l xs f in
        let r = k ms g in
        subst (Groups (l ∷ ls)) q (record {
          parts = xs ∷ r.parts;
          lines_are = ap (λ x. x ∷ ls) a.0 ∙ ap (λ x. v_line xs ∷ x) r.lines_are;
          some = (a.1, r.some);
          whole = ap (λ x. xs ++ x) r.whole;
          proper = All-append Proper xs ms a.2 r.proper;
        })

is_nought : (n : Literal) → n.variable ≡ 0 → Proper n → n ≡ nought
is_nought n z p = at n.positive refl
  where
    at : (b : Bool) → n.positive ≡ b → n ≡ nought
    at true t = ap (λ b. record { positive = b; variable = n.variable }) t ∙ ap (λ k. record { positive = true; variable = k }) z
    at false t = absurd (omega (arith, z, p t))

abbrev Closes : List Literal → List Literal → Type 0
Closes ns lits = (ns ≡ lits ++ nought ∷ []) × AllByRecursion (λ n. 0 < n.variable) lits

closes : (ns lits : List Literal) → closed ns ≡ Some lits → AllByRecursion Proper ns → Closes ns lits
closes [] lits e p = absurd (none_some lits e)
closes (n ∷ []) lits e p = ⊎_elim nil one (cases_eq n.variable 0)
  where
    nil : n.variable ≡ 0 → Closes (n ∷ []) lits
    nil z =
        let i : Some [] ≡ Some lits = sym (cond-true (eqb n.variable 0) (Some []) None (eq-eqb n.variable 0 z)) ∙ e in
        let q : [] ≡ lits = cc in
        subst (Closes (n ∷ [])) q (ap (λ x. x ∷ []) (is_nought n z p.0), tt)

    one : (n.variable ≡ 0 → ⊥) → Closes (n ∷ []) lits
    one z = absurd (none_some lits (sym (cond-false (eqb n.variable 0) (Some []) None (ne_eqb n.variable 0 z)) ∙ e))
closes (n ∷ m ∷ ns) lits e p = ⊎_elim nil (more (λ ks h. closes (m ∷ ns) ks h p.1)) (cases_eq n.variable 0)
  where
    nil : n.variable ≡ 0 → Closes (n ∷ m ∷ ns) lits
    nil z = absurd (none_some lits (sym (cond-true (eqb n.variable 0) None (front (Some n) (closed (m ∷ ns))) (eq-eqb n.variable 0 z)) ∙ e))

    by : (o : Option (List Literal)) → closed (m ∷ ns) ≡ o → front (Some n) o ≡ Some lits → (n.variable ≡ 0 → ⊥) → ((ks : List Literal) → closed (m ∷ ns) ≡ Some ks → Closes (m ∷ ns) ks) → Closes (n ∷ m ∷ ns) lits
    by None f h z k = absurd (none_some lits h)
    by (Some ks) f h z k =
        let q : n ∷ ks ≡ lits = cc in
        let r = k ks f in
        let pos : 0 < n.variable = omega (arith, z) in
        subst (Closes (n ∷ m ∷ ns)) q (ap (λ x. n ∷ x) r.0, (pos, r.1))

    more : ((ks : List Literal) → closed (m ∷ ns) ≡ Some ks → Closes (m ∷ ns) ks) → (n.variable ≡ 0 → ⊥) → Closes (n ∷ m ∷ ns) lits
    more k z = by (closed (m ∷ ns)) refl (sym (cond-false (eqb n.variable 0) None (front (Some n) (closed (m ∷ ns))) (ne_eqb n.variable 0 z)) ∙ e) z k

only : (ls : List (List ℕ)) (lits : List Literal) → literals ls ≡ Some lits → Written ls lits
only ls lits e = at (numbers ls) refl e
  where
    at : (o : Option (List Literal)) → numbers ls ≡ o → close o ≡ Some lits → Written ls lits
    at None f h = absurd (none_some lits h)
    at (Some ns) f h =
        let g = groups ls ns f in
        let c = closes ns lits h g.proper in
        record { groups = g.parts; each_line = g.lines_are; each_some = g.some; together = g.whole ∙ c.0; no_zero = c.1 }

pub literals_law : LiteralsLaw
literals_law ls lits = (only ls lits, reads ls lits)
