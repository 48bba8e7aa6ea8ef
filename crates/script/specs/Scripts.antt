-- A script on a job over any sink: which lines are accepted, where it stops, and what it comes to.
use Rattle.std.specs.Prelude.{◌≡◌, ℕ, ◌+◌, true, List, [], ◌∷◌, ◌++◌, map, length, is_ok, Ok, Err, Result}
use Rattle.std.specs.List.{AllByRecursion}
use Rattle.cnf.specs.Clauses.{Clauses}
use Rattle.cnf.specs.Sinks.{Model}
use Rattle.calls.specs.declared.Call.{Call}
use Rattle.text.specs.Split.{lines}
use Rattle.frames.specs.declared.refusals.Refusal.{Refusal as LineRefusal}
use Rattle.frames.specs.Script.{calling, written_call}
use Rattle.job.specs.declared.call.Reply.{Reply}
use Rattle.job.specs.declared.job.Job.{Job}
use Rattle.job.specs.Calls.{State, Answer, fresh, answer_to}
use Rattle.job.specs.Runs.{Ran, written, Promise}
use Rattle.job.specs.Steps.{known, Step}
use Rattle.script.specs.declared.refusal.Refusal.{Refusal}
use Rattle.script.specs.declared.refusal.Refusal.TheVariants as refused
use Rattle.script.specs.declared.refusal.Stop.{Stop}

-- what a call's answer is to a script
abbrev pub by_call : Answer → Result Reply Refusal
by_call (Ok r) = Ok r
by_call (Err e) = Err (refused.Call e)

-- what a line that is read as a call, or refused, is answered at the sink k and what the job knows
abbrev pub by_line : {S : Type 0} → Model S → S → State → Result Call LineRefusal → Result Reply Refusal
by_line m k s (Ok c) = by_call (answer_to m k s c)
by_line m k s (Err e) = Err (refused.Line e)

abbrev pub line_answer : {S : Type 0} → Model S → S → State → List ℕ → Result Reply Refusal
line_answer m k s l = by_line m k s (calling l)

-- one line on a job: accepted, the job performed its call; refused, nothing changed
abbrev pub LinePerformed : {S : Type 0} → Model S → Job S → List ℕ → Result (Unit {0}) Refusal → Job S → Type 0
LinePerformed m j l (Ok _) k = (c : Call) × (r : Reply) × (calling l ≡ Ok c) × (written_call c ≡ l) × Step m j c (Ok r) k
LinePerformed m j l (Err e) k = (line_answer m j.sink (known j) l ≡ Err e) × (k ≡ j)

-- How a script ends after n accepted lines, at the sink k and what the job knows then, where some lines are left:
-- at its end, or at the first line left, which is refused.
abbrev pub Ended : {S : Type 0} → Model S → S → State → ℕ → List (List ℕ) → Result (Unit {0}) Stop → Type 0
Ended m k s n [] r = r ≡ Ok tt
Ended m k s n (l ∷ ls) r = (e : Refusal) × (line_answer m k s l ≡ Err e) × (r ≡ Err (record { refusal = e; line = n + 1 }))

-- a script brought a job from the sink k and what it knows, s, to the sink k' and s'
pub record ScriptRan {S : Type 0} (m : Model S) (k : S) (s : State) (text : List ℕ) (r : Result (Unit {0}) Stop) (k' : S) (s' : State) : Type 0 where
  -- the calls of the accepted lines, and their answers
  pub calls : List Call
  pub answers : List Answer
  pub accepted : AllByRecursion (λ a. is_ok a ≡ true) answers
  -- the lines from the first refused one on
  pub rest : List (List ℕ)
  -- the text's lines are those of the calls and then the rest, and each is read as its call
  pub made : lines text ≡ map written_call calls ++ rest
  pub reads : AllByRecursion (λ c. calling (written_call c) ≡ Ok c) calls
  pub ran : Ran m k s calls answers k' s'
  pub ended : Ended m k' s' (length calls) rest r

-- the clauses of the accepted lines, in order
abbrev pub clauses : {S : Type 0} {m : Model S} {k : S} {s : State} {text : List ℕ} {r : Result (Unit {0}) Stop} {k' : S} {s' : State} → ScriptRan m k s text r k' s' → Clauses
clauses {s = s} p = written s p.calls p.answers

-- the same from the making of the job, with all that is promised of its calls
pub record DroveScript {S : Type 0} (m : Model S) (k : S) (text : List ℕ) (r : Result (Unit {0}) Stop) (k' : S) (s : State) : Type 0 where
  pub script : ScriptRan m k fresh text r k' s
  pub promise : Promise m k script.calls script.answers k' s
