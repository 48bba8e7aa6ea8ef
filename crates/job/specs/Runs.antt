-- A list of calls on a job over any sink, and what it comes to.
use Rattle.std.specs.Prelude.{◌≡◌, true, ◌↔◌, List, [], ◌∷◌, ◌++◌, Ok, Err}
use Rattle.cnf.specs.Clauses.{Assignment, Clauses}
use Rattle.cnf.specs.Sinks.{Model}
use Rattle.mtl.specs.Runs.{Run}
use Rattle.mtl.specs.Statements.{Obeys, BelongsTo}
use Rattle.calls.specs.declared.Call.{Call}
use Rattle.job.specs.Calls.{State, Answer, fresh, list, after, answer_to}
use Rattle.job.specs.Feeding.{TakenAll}

-- what the job knows after a call and its answer
abbrev pub then_knows : State → Call → Answer → State
then_knows s c (Ok r) = after s c
then_knows s c (Err e) = s

-- what the call handed down
abbrev pub handed : State → Call → Answer → Clauses
handed s c (Ok r) = list s c
handed s c (Err e) = []

-- one call: its answer is the first no of its questions at the sink k and what the job knows
pub record Move {S : Type 0} (m : Model S) (k : S) (s : State) (c : Call) (a : Answer) (k' : S) (s' : State) : Type 0 where
  pub answer : a ≡ answer_to m k s c
  pub knows : s' ≡ then_knows s c a
  pub taken : TakenAll m (handed s c a) k k'

-- the calls one after another, each with its answer
pub data Ran {S : Type 0} (m : Model S) : S → State → List Call → List Answer → S → State → Type 0 where
  none : {k : S} {s : State} → Ran m k s [] [] k s
  more : {k k' k'' : S} {s s' s'' : State} {c : Call} {a : Answer} {cs : List Call} {rs : List Answer} → Move m k s c a k' s' → Ran m k' s' cs rs k'' s'' → Ran m k s (c ∷ cs) (a ∷ rs) k'' s''

-- the clauses of the accepted calls, in order
abbrev pub written : State → List Call → List Answer → Clauses
written s [] rs = []
written s (c ∷ cs) [] = []
written s (c ∷ cs) (a ∷ rs) = handed s c a ++ written (then_knows s c a) cs rs

-- there is a run of the job's bound, settled for its rows, that keeps its requirements
abbrev pub Possible : State → Type 0
Possible s = (run : Run s.bound) × Obeys s.bound s.rows s.kept run

-- the assignment belongs to such a run
abbrev pub Shows : State → Assignment → Type 0
Shows s α = (run : Run s.bound) × Obeys s.bound s.rows s.kept run × BelongsTo α run s.rows

-- What holds after a list of calls on a new job over the sink k, which is k' then, with what the job knows in the end.
pub record Promise {S : Type 0} (m : Model S) (k : S) (cs : List Call) (rs : List Answer) (k' : S) (s : State) : Type 0 where
  -- each answer is the first no of that call's questions at that time, and acceptance where there is none
  pub ran : Ran m k fresh cs rs k' s
  -- a watched assignment is in exactly when it was in and, once a begin was accepted, belongs to a run that obeys the accepted calls
  pub inside : (α : Assignment) → m.watched k α → (m.inside k' α ≡ true) ↔ ((m.inside k α ≡ true) × (s.begun ≡ true → Shows s (m.gives k α)))
  -- the sink took the clauses of the accepted calls, one after another: its count has risen by their number, and what it watches,
  -- what a watched assignment gives each variable, its longest clause and its highest variable are as they were
  pub taken : TakenAll m (written fresh cs rs) k k'
