-- A script that is accepted whole has one list of calls, and a job knows by it what it knows in the end.
use Rattle.std.proofs.Common.{◌≡◌, ℕ, true, List, [], ◌∷◌, ◌++◌, map, length, is_ok, Ok, Err, Result, sym, refl, ap, ◌∙◌, arith}
use Rattle.std.proofs.lemmas.List.{append-nil}
use Rattle.std.proofs.lemmas.Bool.{true≢false}
use Rattle.std.specs.List.{AllByRecursion}
use Rattle.cnf.specs.Sinks.{Model}
use Rattle.calls.specs.declared.Call.{Call}
use Rattle.text.specs.Split.{lines}
use Rattle.frames.specs.declared.refusals.Refusal.{Refusal as LineRefusal}
use Rattle.frames.specs.Script.{calling, written_call}
use Rattle.job.specs.Calls.{State, Answer, fresh}
use Rattle.job.specs.Runs.{Ran, none, more}
use Rattle.script.specs.Scripts.{Ended, ScriptRan}
use Rattle.script.specs.Same.{all_after, SameScript}

-- a job knows that after calls that are all accepted
all_accepted : {S : Type 0} (m : Model S) {k k' : S} {s s' : State} {cs : List Call} {rs : List Answer} → Ran m k s cs rs k' s' → AllByRecursion (λ a. is_ok a ≡ true) rs → s' ≡ all_after s cs
all_accepted m none ok = refl
all_accepted m (more {s = s} {c = c} {a = Ok r} {cs = cs} move rest) (ok, oks) = all_accepted m rest oks ∙ ap (λ z. all_after z cs) move.knows
all_accepted m (more {a = Err e} move rest) (ok, oks) = absurd (true≢false (sym ok))

-- the line of a call that is read as that call says which call it is
same_call : (c d : Call) → calling (written_call c) ≡ Ok c → calling (written_call d) ≡ Ok d → written_call c ≡ written_call d → c ≡ d
same_call c d p q e =
    let r : ◌≡◌ {A = Result Call LineRefusal} (Ok c) (Ok d) = sym p ∙ ap calling e ∙ q in
    cc

same_calls : (cs ds : List Call) → AllByRecursion (λ c. calling (written_call c) ≡ Ok c) cs → AllByRecursion (λ c. calling (written_call c) ≡ Ok c) ds → map written_call cs ≡ map written_call ds → cs ≡ ds
same_calls [] [] p q e = refl
same_calls [] (d ∷ ds) p q e = let z : 0 ≡ length (map written_call (d ∷ ds)) = ap length e in absurd (omega arith)
same_calls (c ∷ cs) [] p q e = let z : length (map written_call (c ∷ cs)) ≡ 0 = ap length e in absurd (omega arith)
same_calls (c ∷ cs) (d ∷ ds) (p, ps) (q, qs) e =
    let first : written_call c ≡ written_call d = cc in
    let rest : map written_call cs ≡ map written_call ds = cc in
    let x = same_call c d p q first in
    let xs = same_calls cs ds ps qs rest in
    cc

-- where a script is accepted whole, no line is left
none_left : {S : Type 0} (m : Model S) (k : S) (s : State) (n : ℕ) (ls : List (List ℕ)) → Ended m k s n ls (Ok tt) → ls ≡ []
none_left m k s n [] e = refl
none_left m k s n (l ∷ ls) (e, refused, is) = let z : ◌≡◌ {A = ℕ} 0 1 = cc in absurd (omega arith)

module _ {S : Type 0} (m : Model S) (k k' : S) (text : List ℕ) (s : State) (p : ScriptRan m k fresh text (Ok tt) k' s) where
  its_lines : lines text ≡ map written_call p.calls
  its_lines = p.made ∙ ap (λ ls. map written_call p.calls ++ ls) (none_left m k' s _ p.rest p.ended) ∙ append-nil _

  its_state : s ≡ all_after fresh p.calls
  its_state = all_accepted m p.ran p.accepted

pub same_script : {S T : Type 0} (m : Model S) (n : Model T) → SameScript m n
same_script m n k k' j j' text s s' p q =
    let calls = same_calls p.calls q.calls p.reads q.reads (sym (its_lines m k k' text s p) ∙ its_lines n j j' text s' q) in
    (calls, its_state m k k' text s p, its_state n j j' text s' q ∙ ap (all_after fresh) (sym calls) ∙ sym (its_state m k k' text s p))
