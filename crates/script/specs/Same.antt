-- A script that is accepted whole has one list of calls, whatever the sink.
use Rattle.std.specs.Prelude.{◌≡◌, ℕ, List, [], ◌∷◌, Ok}
use Rattle.cnf.specs.Sinks.{Model}
use Rattle.calls.specs.declared.Call.{Call}
use Rattle.job.specs.Calls.{State, fresh, after}
use Rattle.script.specs.Scripts.{ScriptRan}

-- what a job knows after calls that are all accepted
abbrev pub all_after : State → List Call → State
all_after s [] = s
all_after s (c ∷ cs) = all_after (after s c) cs

-- over two sinks the job performed the same calls and knows the same in the end
abbrev pub SameScript : {S T : Type 0} → Model S → Model T → Type 0
SameScript {S} {T} m n =
    (k k' : S) (j j' : T) (text : List ℕ) (s s' : State) (p : ScriptRan m k fresh text (Ok tt) k' s) (q : ScriptRan n j fresh text (Ok tt) j' s')
    → (p.calls ≡ q.calls) × (s ≡ all_after fresh p.calls) × (s' ≡ s)
