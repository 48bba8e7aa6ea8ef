-- One call on a job over any sink.
use Rattle.std.specs.Prelude.{◌≡◌, ℕ, length, Ok, Err, Result}
use Rattle.cnf.specs.Clauses.{Clauses}
use Rattle.cnf.specs.Questions.{first_no}
use Rattle.cnf.specs.Sinks.{Model}
use Rattle.mtl.specs.declared.row.Row.{Row}
use Rattle.mtl.specs.declared.requirement.Requirement.{Requirement}
use Rattle.mtl.specs.Lists.{begin}
use Rattle.job.specs.declared.refusal.Refusal.{Refusal}
use Rattle.calls.specs.declared.Call.{Call}
use Rattle.job.specs.declared.call.Reply.{Reply}
use Rattle.job.specs.declared.call.Reply.TheVariants as reply
use Rattle.job.specs.declared.job.Job.{Job}
use Rattle.job.specs.Calls.{State, Answer, highest, list, define_list, require_list, after, with_bound, with_row, with_requirement, sink_asks, answer_to}
use Rattle.job.specs.Feeding.{TakenAll}
use Rattle.job.specs.States.{state_of}

-- what a job knows besides its sink
abbrev pub known : {S : Type 0} → Job S → State
known j = state_of j.setup

-- accepted, the sink took the clauses and the job knows s; refused, nothing changed
abbrev pub Came : {S X : Type 0} → Model S → Job S → Clauses → State → Result X Refusal → Job S → Type 0
Came m j cs s (Ok x) k = (known k ≡ s) × TakenAll m cs j.sink k.sink
Came m j cs s (Err e) k = k ≡ j

-- the last questions of a call that hands down cs and leaves the job knowing s, and what comes of them
pub record Finishing {S : Type 0} (m : Model S) (j : Job S) (cs : Clauses) (s : State) (x : Reply) (a : Answer) (k : Job S) : Type 0 where
  pub answer : a ≡ first_no (sink_asks m j.sink (highest s) cs) x
  pub came : Came m j cs s a k

abbrev pub Beginning : {S : Type 0} → Model S → Job S → ℕ → Answer → Job S → Type 0
Beginning m j k a j' = Finishing m j (begin k) (with_bound (known j) k) reply.Done a j'

abbrev pub Adding : {S : Type 0} → Model S → Job S → Row → Answer → Job S → Type 0
Adding m j r a j' = Finishing m j (define_list (known j) r) (with_row (known j) r) (reply.Row (length (known j).rows)) a j'

abbrev pub Keeping : {S : Type 0} → Model S → Job S → Requirement → Answer → Job S → Type 0
Keeping m j q a j' = Finishing m j (require_list (known j) q) (with_requirement (known j) q) reply.Done a j'

-- one call: the answer is the first no of its questions, and a refusal changes nothing
pub record Step {S : Type 0} (m : Model S) (j : Job S) (c : Call) (a : Answer) (k : Job S) : Type 0 where
  pub answer : a ≡ answer_to m j.sink (known j) c
  pub came : Came m j (list (known j) c) (after (known j) c) a k
