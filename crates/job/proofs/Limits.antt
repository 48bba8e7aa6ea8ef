-- The first no of questions, and what a sink takes that has said yes to the last three.
use Rattle.std.proofs.Common.{◌≡◌, ℕ, ◌≤◌, Bool, true, false, cond, leb, List, [], ◌∷◌, ◌++◌, Ok, Err, Result, sym, refl, ap, ◌∙◌, arith}
use Rattle.std.proofs.lemmas.Bool.{and_parts, and_from, leb-true, le-leb}
use Rattle.std.proofs.lemmas.Bool.Decides.{nat_tests}
use Rattle.cnf.specs.declared.clause.Literal.{Literal}
use Rattle.cnf.specs.Clauses.{Clause, Clauses, within, in_range, all_in_range}
use Rattle.cnf.specs.Questions.{Question, first_no}
use Rattle.cnf.specs.Sinks.{Model}
use Rattle.mtl.specs.Statements.{Takes}
use Rattle.job.specs.declared.cost.Cost.{Cost}
use Rattle.job.specs.Costs.{Costs}
use Rattle.job.specs.declared.refusal.Refusal.{Refusal}
use Rattle.job.specs.Calls.{limits, sink_asks}
use Rattle.job.specs.Feeding.{Fits}

-- another value where there is no no
abbrev pub turned : {X Y E : Type 0} → Y → Result X E → Result Y E
turned y (Ok x) = Ok y
turned y (Err e) = Err e

turned_cond : {X Y E : Type 0} (y : Y) (b : Bool) (r s : Result X E) → turned y (cond b r s) ≡ cond b (turned y r) (turned y s)
turned_cond y true r s = refl
turned_cond y false r s = refl

pub first_no_turned : {X Y E : Type 0} (qs : List (Question E)) (x : X) (y : Y) → first_no qs y ≡ turned y (first_no qs x)
first_no_turned [] x y = refl
first_no_turned (q ∷ qs) x y =
    ap (λ r. cond q.yes r (Err q.refusal)) (first_no_turned qs x y) ∙ sym (turned_cond y q.yes (first_no qs x) (Err q.refusal))

-- the questions of a first part, and then those of a second
abbrev pub then_asked : {X Y E : Type 0} → Result X E → Result Y E → Result Y E
then_asked (Ok x) r = r
then_asked (Err e) r = Err e

then_cond : {X Y E : Type 0} (b : Bool) (r s : Result X E) (u : Result Y E) → then_asked (cond b r s) u ≡ cond b (then_asked r u) (then_asked s u)
then_cond true r s u = refl
then_cond false r s u = refl

pub first_no-join : {X Y E : Type 0} (qs rs : List (Question E)) (x : X) (y : Y) → first_no (qs ++ rs) y ≡ then_asked (first_no qs x) (first_no rs y)
first_no-join [] rs x y = refl
first_no-join (q ∷ qs) rs x y =
    ap (λ r. cond q.yes r (Err q.refusal)) (first_no-join qs rs x y) ∙ sym (then_cond q.yes (first_no qs x) (Err q.refusal) (first_no rs y))

-- a list whose variables lie within n, and so within more
within_more : (n m : ℕ) (l : Literal) → n ≤ m → within n l ≡ true → within m l ≡ true
within_more n m l h e =
    let ends = and_parts (leb 1 l.variable) (leb l.variable n) e in
    let high = leb-true l.variable n ends.1 in
    and_from (leb 1 l.variable) (leb l.variable m) ends.0 (le-leb l.variable m (omega arith))

in_range_more : (n m : ℕ) (c : Clause) → n ≤ m → in_range n c ≡ true → in_range m c ≡ true
in_range_more n m [] h e = refl
in_range_more n m (l ∷ c) h e =
    let both = and_parts (within n l) (in_range n c) e in
    and_from (within m l) (in_range m c) (within_more n m l h both.0) (in_range_more n m c h both.1)

ranged_more : (n m : ℕ) (cs : Clauses) → n ≤ m → all_in_range n cs ≡ true → all_in_range m cs ≡ true
ranged_more n m [] h e = refl
ranged_more n m (c ∷ cs) h e =
    let both = and_parts (in_range n c) (all_in_range n cs) e in
    and_from (in_range m c) (all_in_range m cs) (in_range_more n m c h both.0) (ranged_more n m cs h both.1)

pub takes_more : (n m : ℕ) (cs : Clauses) → n ≤ m → Takes n cs → Takes m cs
takes_more n m cs h t = record { ranged = ranged_more n m cs h t.ranged; full = t.full }

-- the last questions, of a list of this cost
module _ {S : Type 0} (m : Model S) (s : S) (cs : Clauses) (t : Cost) (v : ℕ) (counted : Costs cs t) where
  pub limits_are : {X : Type 0} (x : X) → first_no (limits (m.longest s) (m.highest s) (m.cells s) t.longest v t.cells) x ≡ first_no (sink_asks m s v cs) x
  limits_are x = simp (counted.cells, counted.longest)

  pub limits_fit : ◌≡◌ {A = Result (Unit {0}) Refusal} (Ok tt) (first_no (limits (m.longest s) (m.highest s) (m.cells s) t.longest v t.cells) tt) → Takes v cs → Fits m cs s
  limits_fit e takes =
      let f : ◌≡◌ {A = Result (Unit {0}) Refusal} (Ok tt) (first_no (sink_asks m s v cs) tt) = e ∙ limits_are tt in
      record {
        takes = takes_more v (m.highest s) cs (grind (arith, nat_tests)) takes;
        short = grind (arith, nat_tests);
        room = grind (arith, nat_tests);
      }
