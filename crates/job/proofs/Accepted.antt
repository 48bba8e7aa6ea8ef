-- What is known once a call's own questions are answered yes.
use Rattle.std.proofs.Common.{◌≡◌, ℕ, zero, suc, ◌-◌, ◌<◌, ◌≤◌, Bool, true, false, cond, List, [], ◌∷◌, length, get_or, Some, None, Ok, Err, Option, sym, refl, ap, ◌∙◌, arith}
use Rattle.std.proofs.lemmas.Bool.{and_parts, and_from, leb-true, ltb-true, le-leb}
use Rattle.std.specs.List.{AllByRecursion}
use Rattle.cnf.specs.Questions.{Question, first_no}
use Rattle.cnf.specs.Sinks.{Model}
use Rattle.mtl.specs.declared.row.Row.{Row}
use Rattle.mtl.specs.declared.row.Row.TheVariants.{Signal}
use Rattle.mtl.specs.Rows.{distance}
use Rattle.mtl.specs.Fields.{rows_with}
use Rattle.mtl.specs.Tables.{is_new, fits_after}
use Rattle.job.specs.declared.refusal.Refusal.{Refusal}
use Rattle.calls.specs.declared.Call.{Call}
use Rattle.calls.specs.declared.records.Define.{Define}
use Rattle.calls.specs.declared.records.Require.{Require}
use Rattle.job.specs.declared.job.Job.{Job}
use Rattle.job.specs.Calls.{State, Answer, asks, list, after, reply_of, row_with, low_signal, new_signal, define_asks, require_asks, sink_asks, highest}
use Rattle.job.specs.Steps.{known, Step, Finishing}
use Rattle.job.proofs.Limits.{first_no-join, then_asked}

-- every question is answered yes
abbrev pub Yes : {E : Type 0} → List (Question E) → Type 0
Yes [] = Unit {0}
Yes (q ∷ qs) = (q.yes ≡ true) × Yes qs

yes_more : {X E : Type 0} (q : Question E) (qs : List (Question E)) (x y : X) → (first_no qs x ≡ Ok y → (x ≡ y) × Yes qs) → (b : Bool) → q.yes ≡ b → cond b (first_no qs x) (Err q.refusal) ≡ Ok y → (x ≡ y) × Yes (q ∷ qs)
yes_more q qs x y rest true f h = let r = rest h in (r.0, (f, r.1))
yes_more q qs x y rest false f h = let z : ◌≡◌ {A = ℕ} 0 1 = cc in let n : ⊥ = omega arith in absurd n

pub all_yes : {X E : Type 0} (qs : List (Question E)) (x y : X) → first_no qs x ≡ Ok y → (x ≡ y) × Yes qs
all_yes [] x y e = (cc, tt)
all_yes (q ∷ qs) x y e = yes_more q qs x y (all_yes qs x y) q.yes refl e

is_new_from : (rs : List Row) (o : Option ℕ) → low_signal o ≡ true → new_signal rs o ≡ true → is_new rs o ≡ true
is_new_from rs None l n = refl
is_new_from rs (Some a) l n = and_from _ _ l n

get_or_all : {X : Type 0} (P : X → Type 0) (xs : List X) (i : ℕ) (d : X) → AllByRecursion P xs → P d → P (get_or xs i d)
get_or_all P [] i d h p = p
get_or_all P (x ∷ xs) zero d h p = h.0
get_or_all P (x ∷ xs) (suc i) d h p = get_or_all P xs i d h.1 p

pub distance_with : (d : Define) → distance (row_with d) ≤ d.t
distance_with d =
    get_or_all (λ r. distance r ≤ d.t) (rows_with d.a d.b d.t) (d.code - 1) (Signal 0)
    (omega arith, (omega arith, (omega arith, (omega arith, (omega arith, (omega arith, (omega arith, (omega arith, (omega arith, (omega arith, (omega arith, (omega arith, (omega arith, (omega arith, (omega arith, (omega arith, (omega arith, tt)))))))))))))))))
    (omega arith)

-- a row that may be added
pub record FreshRow (s : State) (r : Row) : Type 0 where
  pub begun : s.begun ≡ true
  pub room : length s.rows < 32
  pub fit : fits_after s.rows r ≡ true

pub define_yes : (s : State) (d : Define) → Yes (define_asks s d) → FreshRow s (row_with d)
define_yes s d (begun, (room, (coded, (unused, (there, (new, (near, _))))))) =
    let both = and_parts _ _ there in
    let far = distance_with d in
    record {
      begun = begun;
      room = ltb-true _ _ room;
      fit = and_from _ _ (and_from _ _ both.0 (le-leb (distance (row_with d)) 31 (omega (arith, leb-true d.t 31 near)))) (is_new_from s.rows _ both.1 new);
    }

-- a requirement that may be kept
pub record FreshRequirement (s : State) (q : Require) : Type 0 where
  pub begun : s.begun ≡ true
  pub there : q.row < length s.rows
  pub inside : q.instant ≤ s.bound
  pub room : length s.kept < 64

pub require_yes : (s : State) (q : Require) → Yes (require_asks s q) → FreshRequirement s q
require_yes s q (begun, (there, (inside, (value, (room, _))))) =
    record { begun = begun; there = ltb-true _ _ there; inside = leb-true _ _ inside; room = ltb-true _ _ room }

-- a call whose own questions are answered yes, and one with a no among them
module _ {S : Type 0} (m : Model S) (j : Job S) (c : Call) where
  pub step_goes_on : {X : Type 0} (x y : X) (a : Answer) (k : Job S) → Ok y ≡ first_no (asks (known j) c) x → Finishing m j (list (known j) c) (after (known j) c) (reply_of (known j) c) a k → Step m j c a k
  step_goes_on x y a k e h = record {
    answer = h.answer ∙ sym (first_no-join (asks (known j) c) _ x (reply_of (known j) c) ∙ ap (λ r. then_asked r (first_no (sink_asks m j.sink (highest (after (known j) c)) (list (known j) c)) (reply_of (known j) c))) (sym e));
    came = h.came;
  }

  pub step_stops : {X : Type 0} (x : X) (r : Refusal) → Err r ≡ first_no (asks (known j) c) x → Step m j c (Err r) j
  step_stops x r e = record {
    answer = sym (first_no-join (asks (known j) c) _ x (reply_of (known j) c) ∙ ap (λ s. then_asked s (first_no (sink_asks m j.sink (highest (after (known j) c)) (list (known j) c)) (reply_of (known j) c))) (sym e));
    came = refl;
  }
