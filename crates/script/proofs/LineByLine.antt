-- One line more of a script.
use Rattle.std.proofs.Common.{◌≡◌, ℕ, ◌+◌, true, List, [], ◌∷◌, ◌++◌, map, length, is_ok, Ok, Err, Result, sym, refl, ap, ◌∙◌, subst, append_assoc, arith}
use Rattle.std.proofs.lemmas.List.{map_push, length_push}
use Rattle.std.proofs.ByRecursion.{All-push}
use Rattle.std.specs.List.{AllByRecursion}
use Rattle.std.specs.Result.{MatchResult, IsErrAnd}
use Rattle.cnf.specs.Sinks.{Model}
use Rattle.calls.specs.declared.Call.{Call}
use Rattle.text.specs.Split.{lines}
use Rattle.frames.specs.Script.{calling, written_call}
use Rattle.job.specs.declared.job.Job.{Job}
use Rattle.job.specs.Calls.{Answer}
use Rattle.job.specs.Runs.{Ran, none}
use Rattle.job.specs.Steps.{known}
use Rattle.job.proofs.Driving.{move_of, ran_push}
use Rattle.script.specs.declared.refusal.Refusal.{Refusal}
use Rattle.script.specs.declared.refusal.Stop.{Stop}
use Rattle.script.specs.Scripts.{LinePerformed, Ended, ScriptRan}

-- the first n lines of the text are performed, and these are left
pub record SoFar {S : Type 0} (m : Model S) (j : Job S) (text : List ℕ) (n : ℕ) (left : List (List ℕ)) (k : Job S) : Type 0 where
  pub calls : List Call
  pub answers : List Answer
  pub accepted : AllByRecursion (λ a. is_ok a ≡ true) answers
  pub made : lines text ≡ map written_call calls ++ left
  pub reads : AllByRecursion (λ c. calling (written_call c) ≡ Ok c) calls
  pub ran : Ran m j.sink (known j) calls answers k.sink (known k)
  pub count : n ≡ length calls

-- what a line is answered, where P says what an error becomes
module _ (P : Refusal → Stop → Type 0) where
  pub went_on : (q : Result (Unit {0}) Refusal) (r : Result (Unit {0}) Stop) → MatchResult q (λ x. r ≡ Ok x) (λ e. IsErrAnd r (P e)) → r ≡ Ok tt → q ≡ Ok tt
  went_on (Ok _) r h e = refl
  went_on (Err x) r h e = absurd (subst (λ y. IsErrAnd y (P x)) e h)

  pub ended_at : (q : Result (Unit {0}) Refusal) (r : Result (Unit {0}) Stop) (s : Stop) → MatchResult q (λ x. r ≡ Ok x) (λ e. IsErrAnd r (P e)) → r ≡ Err s → (e : Refusal) × (q ≡ Err e) × P e s
  ended_at (Ok x) r s h e = let z : ◌≡◌ {A = ℕ} 0 1 = cc in absurd (omega arith)
  ended_at (Err x) r s h e = (x, refl, subst (λ y. IsErrAnd y (P x)) e h)

module _ {S : Type 0} (m : Model S) (j : Job S) (text : List ℕ) where
  pub none_yet : (n : ℕ) (left : List (List ℕ)) → n ≡ 0 → left ≡ lines text → SoFar m j text n left j
  none_yet n left e all = record { calls = []; answers = []; accepted = tt; made = sym all; reads = tt; ran = none; count = e }

  module _ (n : ℕ) (left : List (List ℕ)) (k : Job S) (old : SoFar m j text n left k) where
    pub one_more : (i : ℕ) (l : List ℕ) (rest : List (List ℕ)) (q : Result (Unit {0}) Refusal) (k' : Job S) → i ≡ n + 1 → left ≡ l ∷ rest → q ≡ Ok tt → LinePerformed m k l q k' → SoFar m j text i rest k'
    one_more i l rest q k' next e ok performed =
        let (c, r, readable, written, step) = subst (λ x. LinePerformed m k l x k') ok performed in
        let cs = old.calls in
        record {
          calls = cs ++ (c ∷ []);
          answers = old.answers ++ (Ok r ∷ []);
          accepted = All-push _ old.answers (Ok r) old.accepted refl;
          made = old.made
              ∙ ap (λ ls. map written_call cs ++ ls) (e ∙ ap (λ x. x ∷ rest) (sym written))
              ∙ sym (append_assoc (map written_call cs) (written_call c ∷ []) rest)
              ∙ ap (λ ls. ls ++ rest) (sym (map_push written_call cs c));
          reads = All-push _ cs c old.reads (ap calling written ∙ readable);
          ran = ran_push m c (Ok r) old.ran (move_of m k k' c (Ok r) step);
          count = next ∙ ap (λ x. x + 1) old.count ∙ sym (length_push cs c);
        }

    ended : (ls : List (List ℕ)) (r : Result (Unit {0}) Stop) → left ≡ ls → Ended m k.sink (known k) n ls r → ScriptRan m j.sink (known j) text r k.sink (known k)
    ended ls r e end = record {
      calls = old.calls;
      answers = old.answers;
      accepted = old.accepted;
      rest = ls;
      made = old.made ∙ ap (λ ls. map written_call old.calls ++ ls) e;
      reads = old.reads;
      ran = old.ran;
      ended = subst (λ x. Ended m k.sink (known k) x ls r) old.count end;
    }

    pub all_done : left ≡ [] → ScriptRan m j.sink (known j) text (Ok tt) k.sink (known k)
    all_done e = ended [] (Ok tt) e refl

    pub stopped : (i : ℕ) (l : List ℕ) (rest : List (List ℕ)) (e : Refusal) (q : Result (Unit {0}) Refusal) (k' : Job S) (r : Result (Unit {0}) Stop) → i ≡ n → left ≡ l ∷ rest → q ≡ Err e → LinePerformed m k l q k' → r ≡ Err (record { refusal = e; line = i + 1 }) → ScriptRan m j.sink (known j) text r k'.sink (known k')
    stopped i l rest e q k' r number is err performed told =
        let (refusal, same) = subst (λ x. LinePerformed m k l x k') err performed in
        let line : ◌≡◌ {A = Stop} (record { refusal = e; line = i + 1 }) (record { refusal = e; line = n + 1 }) = ap (λ x. record { refusal = e; line = x + 1 }) number in
        subst (λ x. ScriptRan m j.sink (known j) text r x.sink (known x)) (sym same) (ended (l ∷ rest) r is (e, refusal, told ∙ ap Err line))
