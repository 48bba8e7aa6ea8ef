-- What a list of calls comes to.
use Rattle.std.proofs.Common.{◌≡◌, ℕ, ◌<◌, ◌≤◌, Bool, true, false, cond, ◌&&◌, ◌↔◌, List, [], ◌∷◌, ◌++◌, reverse, length, Ok, Err, sym, refl, ap, ◌∙◌, subst, ⊎_elim, arith}
use Rattle.std.proofs.lemmas.List.{length_push}
use Rattle.std.proofs.lemmas.Bool.{and_parts, and_from, cases_Bool, not-true, both_ways}
use Rattle.cnf.specs.Clauses.{Assignment, Clauses, sat_all}
use Rattle.cnf.specs.Questions.{Question}
use Rattle.cnf.specs.Sinks.{Model}
use Rattle.mtl.specs.declared.row.Row.{Row}
use Rattle.mtl.specs.declared.requirement.Requirement.{Requirement}
use Rattle.mtl.specs.Shapes.{given, unit}
use Rattle.mtl.specs.Lists.{begin, block, clauses, start}
use Rattle.mtl.specs.Tables.{lawful, Asked, requires, job}
use Rattle.mtl.proofs.Exact.{exact}
use Rattle.mtl.proofs.Grown.{grown}
use Rattle.mtl.proofs.Tables.{lawful_push}
use Rattle.calls.specs.declared.Call.{Call}
use Rattle.calls.specs.declared.Call.TheVariants.{Begin, Define, Require}
use Rattle.job.specs.Calls.{State, Answer, fresh, asks, list, after, answer_to, questions, row_with, requirement, define_list, require_list, with_row}
use Rattle.job.specs.Feeding.{TakenAll, taken_none, taken_join, sat_all-++}
use Rattle.job.specs.Runs.{then_knows, handed, Ran, none, more, written, Shows, Promise}
use Rattle.job.proofs.Accepted.{Yes, all_yes, define_yes, require_yes}

-- the clauses of what a job knows
abbrev pub lists : State → Clauses
lists s = cond s.begun (job s.bound (reverse s.rows) s.kept) []

-- what every job knows
pub record Good (s : State) : Type 0 where
  pub lawful : lawful s.rows ≡ true
  pub asked : Asked s.bound (length s.rows) s.kept
  pub no_rows : s.begun ≡ false → s.rows ≡ []
  pub no_requirements : s.begun ≡ false → s.kept ≡ []

pub good_fresh : Good fresh
good_fresh = record { lawful = refl; asked = tt; no_rows = λ _. refl; no_requirements = λ _. refl }

yes_front : {E : Type 0} (a b : List (Question E)) → Yes (a ++ b) → Yes a
yes_front [] b y = tt
yes_front (q ∷ a) b (y, rest) = (y, yes_front a b rest)

pub accepted_yes : {S : Type 0} (m : Model S) (k : S) (s : State) (c : Call) (r : _) → Ok r ≡ answer_to m k s c → Yes (asks s c)
accepted_yes m k s c r e = yes_front (asks s c) _ (all_yes (questions m k s c) _ r (sym e)).1

asked_more : (k n n' : ℕ) (qs : List Requirement) → n ≤ n' → Asked k n qs → Asked k n' qs
asked_more k n n' [] h a = tt
asked_more k n n' (q ∷ qs) h (row, at, rest) = (omega arith, at, asked_more k n n' qs h rest)

asked_push : (k n : ℕ) (qs : List Requirement) (q : Requirement) → Asked k n qs → q.row < n → q.instant ≤ k → Asked k n (qs ++ (q ∷ []))
asked_push k n [] q a row at = (row, at, tt)
asked_push k n (p ∷ qs) q (r, i, rest) row at = (r, i, asked_push k n qs q rest row at)

true_not_false : {P : Type 0} (b : Bool) → b ≡ true → b ≡ false → P
true_not_false b t f = absurd (both_ways b f t)

-- what a job knows after an accepted call
pub good_after : (s : State) (c : Call) → Yes (asks s c) → Good s → Good (after s c)
good_after s (Begin x) (idle, _) g =
    let off = not-true s.begun idle in
    record {
      lawful = g.lawful;
      asked = subst (λ qs. Asked x.bound (length s.rows) qs) (sym (g.no_requirements off)) tt;
      no_rows = λ f. true_not_false true refl f;
      no_requirements = λ f. true_not_false true refl f;
    }
good_after s (Define d) y g =
    let new = define_yes s d y in
    let r = row_with d in
    record {
      lawful = lawful_push s.rows (row_with d) ∙ and_from (lawful s.rows) _ g.lawful new.fit;
      asked = asked_more s.bound (length s.rows) _ s.kept (omega (arith, length_push s.rows (row_with d))) g.asked;
      no_rows = λ f. true_not_false s.begun new.begun f;
      no_requirements = λ f. true_not_false s.begun new.begun f;
    }
good_after s (Require q) y g =
    let new = require_yes s q y in
    record {
      lawful = g.lawful;
      asked = asked_push s.bound (length s.rows) s.kept (requirement q) g.asked new.there new.inside;
      no_rows = λ f. true_not_false s.begun new.begun f;
      no_requirements = λ f. true_not_false s.begun new.begun f;
    }

-- a requirement's clause is the same with a row more
requires_stay : (k : ℕ) (rows : List Row) (r : Row) (qs : List Requirement) → Asked k (length rows) qs → requires k (reverse (rows ++ (r ∷ []))) qs ≡ requires k (reverse rows) qs
requires_stay k rows r [] a = refl
requires_stay k rows r (q ∷ qs) (row, at, rest) =
    ap (λ n. unit (given q.value (block n q.instant)) ++ requires k (reverse (rows ++ (r ∷ []))) qs) (grown.start_stays k rows r q.row row)
    ∙ ap (λ cs. unit (given q.value (block (start k (reverse rows) q.row) q.instant)) ++ cs) (requires_stay k rows r qs rest)

requires_push : (k : ℕ) (rs : List Row) (qs : List Requirement) (q : Requirement) → requires k rs (qs ++ (q ∷ [])) ≡ requires k rs qs ++ requires k rs (q ∷ [])
requires_push k rs [] q = refl
requires_push k rs (p ∷ qs) q = ap (λ cs. unit (given p.value (block (start k rs p.row) p.instant)) ++ cs) (requires_push k rs qs q)

and_true : (a : Bool) → (a && true) ≡ a
and_true true = refl
and_true false = refl

swapped : (a b : Bool) → (a && b) ≡ (b && a)
swapped true true = refl
swapped true false = refl
swapped false true = refl
swapped false false = refl

and_last : (a b c d : Bool) → ((a && (b && d)) && c) ≡ (((a && b) && c) && d)
and_last true true c d = swapped d c
and_last true false c d = refl
and_last false b c d = refl

and_assoc : (a b c : Bool) → ((a && b) && c) ≡ (a && (b && c))
and_assoc true b c = refl
and_assoc false b c = refl

sat-job : (α : Assignment) (k : ℕ) (rs : List Row) (qs : List Requirement) → sat_all α (job k rs qs) ≡ ((sat_all α (begin k) && sat_all α (clauses k rs)) && sat_all α (requires k rs qs))
sat-job α k rs qs =
    sat_all-++ α (begin k ++ clauses k rs) (requires k rs qs) ∙ ap (λ b. b && sat_all α (requires k rs qs)) (sat_all-++ α (begin k) (clauses k rs))

pub begun_is : (s : State) → s.begun ≡ true → lists s ≡ job s.bound (reverse s.rows) s.kept
begun_is s e = ap (λ b. cond b (job s.bound (reverse s.rows) s.kept) []) e

not_begun_is : (s : State) → s.begun ≡ false → lists s ≡ []
not_begun_is s e = ap (λ b. cond b (job s.bound (reverse s.rows) s.kept) []) e

-- the clauses of what a job knows after an accepted call say what they said, and what the call's say
lists_after : (α : Assignment) (s : State) (c : Call) → Yes (asks s c) → Good s → sat_all α (lists (after s c)) ≡ (sat_all α (lists s) && sat_all α (list s c))
lists_after α s (Begin x) (idle, _) g =
    let off = not-true s.begun idle in
    ap (λ rs. sat_all α (job x.bound (reverse rs) s.kept)) (g.no_rows off)
    ∙ ap (λ qs. sat_all α (job x.bound [] qs)) (g.no_requirements off)
    ∙ sat-job α x.bound [] []
    ∙ and_true _ ∙ and_true _
    ∙ sym (ap (λ cs. sat_all α cs && sat_all α (begin x.bound)) (not_begun_is s off))
lists_after α s (Define d) y g =
    let new = define_yes s d y in
    let r = row_with d in
    let k = s.bound in
    ap (sat_all α) (begun_is (with_row s (row_with d)) new.begun)
    ∙ sat-job α s.bound (reverse (s.rows ++ (row_with d ∷ []))) s.kept
    ∙ ap (λ cs. (sat_all α (begin s.bound) && sat_all α cs) && sat_all α (requires s.bound (reverse (s.rows ++ (row_with d ∷ []))) s.kept)) (grown.clauses_more s.bound s.rows (row_with d))
    ∙ ap (λ cs. (sat_all α (begin s.bound) && sat_all α (clauses s.bound (reverse s.rows) ++ define_list s (row_with d))) && sat_all α cs) (requires_stay s.bound s.rows (row_with d) s.kept g.asked)
    ∙ ap (λ x. (sat_all α (begin s.bound) && x) && sat_all α (requires s.bound (reverse s.rows) s.kept)) (sat_all-++ α (clauses s.bound (reverse s.rows)) (define_list s (row_with d)))
    ∙ and_last (sat_all α (begin s.bound)) (sat_all α (clauses s.bound (reverse s.rows))) (sat_all α (requires s.bound (reverse s.rows) s.kept)) (sat_all α (define_list s (row_with d)))
    ∙ ap (λ x. x && sat_all α (define_list s (row_with d))) (sym (ap (sat_all α) (begun_is s new.begun) ∙ sat-job α s.bound (reverse s.rows) s.kept))
lists_after α s (Require q) y g =
    let new = require_yes s q y in
    let k = s.bound in
    let rs = reverse s.rows in
    ap (sat_all α) (ap (λ b. cond b (job s.bound (reverse s.rows) (s.kept ++ (requirement q ∷ []))) []) new.begun)
    ∙ sat_all-++ α (begin s.bound ++ clauses s.bound (reverse s.rows)) (requires s.bound (reverse s.rows) (s.kept ++ (requirement q ∷ [])))
    ∙ ap (λ cs. sat_all α (begin s.bound ++ clauses s.bound (reverse s.rows)) && sat_all α cs) (requires_push s.bound (reverse s.rows) s.kept (requirement q))
    ∙ ap (λ x. sat_all α (begin s.bound ++ clauses s.bound (reverse s.rows)) && x) (sat_all-++ α (requires s.bound (reverse s.rows) s.kept) (require_list s (requirement q)))
    ∙ sym (and_assoc (sat_all α (begin s.bound ++ clauses s.bound (reverse s.rows))) (sat_all α (requires s.bound (reverse s.rows) s.kept)) (sat_all α (require_list s (requirement q))))
    ∙ ap (λ x. x && sat_all α (require_list s (requirement q))) (sym (ap (sat_all α) (begun_is s new.begun) ∙ sat_all-++ α (begin s.bound ++ clauses s.bound (reverse s.rows)) (requires s.bound (reverse s.rows) s.kept)))

-- one call, and a list of calls
module _ {S : Type 0} (m : Model S) where
  good_then : (k : S) (s : State) (c : Call) (a : Answer) → a ≡ answer_to m k s c → Good s → Good (then_knows s c a)
  good_then k s c (Ok r) e g = good_after s c (accepted_yes m k s c r e) g
  good_then k s c (Err e₁) e g = g

  lists_then : (α : Assignment) (k : S) (s : State) (c : Call) (a : Answer) → a ≡ answer_to m k s c → Good s → sat_all α (lists (then_knows s c a)) ≡ (sat_all α (lists s) && sat_all α (handed s c a))
  lists_then α k s c (Ok r) e g = lists_after α s c (accepted_yes m k s c r e) g
  lists_then α k s c (Err e₁) e g = sym (and_true _)

  pub ran_good : {k k' : S} {s s' : State} {cs : List Call} {rs : List Answer} → Ran m k s cs rs k' s' → Good s → Good s'
  ran_good none g = g
  ran_good (more {k} {s = s} {c = c} {a = a} move rest) g =
      ran_good rest (subst Good (sym move.knows) (good_then k s c a move.answer g))

  pub ran_lists : (α : Assignment) {k k' : S} {s s' : State} {cs : List Call} {rs : List Answer} → Ran m k s cs rs k' s' → Good s → sat_all α (lists s') ≡ (sat_all α (lists s) && sat_all α (written s cs rs))
  ran_lists α none g = sym (and_true _)
  ran_lists α (more {k} {s = s} {s' = s'} {c = c} {a = a} {cs = cs} {rs = rs} move rest) g =
      let step = lists_then α k s c a move.answer g in
      let later = ran_lists α rest (subst Good (sym move.knows) (good_then k s c a move.answer g)) in
      later
      ∙ ap (λ z. sat_all α (lists z) && sat_all α (written z cs rs)) move.knows
      ∙ ap (λ x. x && sat_all α (written (then_knows s c a) cs rs)) step
      ∙ and_assoc (sat_all α (lists s)) (sat_all α (handed s c a)) (sat_all α (written (then_knows s c a) cs rs))
      ∙ ap (λ x. sat_all α (lists s) && x) (sym (sat_all-++ α (handed s c a) (written (then_knows s c a) cs rs)))

  pub ran_taken : {k k' : S} {s s' : State} {cs : List Call} {rs : List Answer} → Ran m k s cs rs k' s' → TakenAll m (written s cs rs) k k'
  ran_taken (none {k}) = taken_none m k
  ran_taken (more {k} {k'} {k''} {s = s} {s' = s'} {c = c} {a = a} {cs = cs} {rs = rs} move rest) =
      taken_join m k k' k'' (handed s c a) (written (then_knows s c a) cs rs) move.taken
      (subst (λ z. TakenAll m (written z cs rs) k' k'') move.knows (ran_taken rest))

-- a job's clauses say that an assignment belongs to a run that obeys it
shows_is : (s : State) (α : Assignment) → Good s → (sat_all α (lists s) ≡ true) ↔ (s.begun ≡ true → Shows s α)
shows_is s α g = (
  λ e b. (exact s.bound s.rows s.kept α g.lawful g.asked).0 (sym (ap (sat_all α) (begun_is s b)) ∙ e),
  λ h. ⊎_elim
      (λ b. ap (sat_all α) (begun_is s b) ∙ (exact s.bound s.rows s.kept α g.lawful g.asked).1 (h b))
      (λ b. ap (sat_all α) (not_begun_is s b))
      (cases_Bool s.begun),
)

pub promised : {S : Type 0} (m : Model S) (k k' : S) (cs : List Call) (rs : List Answer) (s : State) → Ran m k fresh cs rs k' s → Promise m k cs rs k' s
promised m k k' cs rs s ran =
    let taken = ran_taken m ran in
    let shows = λ (α : Assignment). shows_is s α (ran_good m ran good_fresh) in
    record {
      ran = ran;
      inside = λ α w. (
        λ e. let parts = and_parts (m.inside k α) (sat_all (m.gives k α) (written fresh cs rs)) (sym (taken.meaning α w) ∙ e) in
            (parts.0, (shows (m.gives k α)).0 (ran_lists m (m.gives k α) ran good_fresh ∙ parts.1)),
        λ (e, h). taken.meaning α w ∙ and_from (m.inside k α) _ e (sym (ran_lists m (m.gives k α) ran good_fresh) ∙ (shows (m.gives k α)).1 h),
      );
      taken = taken;
    }
