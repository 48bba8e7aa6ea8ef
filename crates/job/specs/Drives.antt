-- A list of calls, each with the place of its answer.
use Rattle.std.specs.Prelude.{◌≡◌, List, [], ◌∷◌, map, Some}
use Rattle.cnf.specs.Sinks.{Model}
use Rattle.calls.specs.declared.Call.{Call}
use Rattle.job.specs.declared.call.Exchange.{Exchange}
use Rattle.job.specs.declared.job.Job.{Job}
use Rattle.job.specs.Calls.{State, Answer}
use Rattle.job.specs.Runs.{Ran, Promise}
use Rattle.job.specs.Steps.{known}

abbrev pub calls_of : List Exchange → List Call
calls_of xs = map (λ x. x.call) xs

-- each call with its answer
abbrev pub answered : List Call → List Answer → List Exchange
answered [] rs = []
answered (c ∷ cs) [] = []
answered (c ∷ cs) (r ∷ rs) = record { call = c; answer = Some r } ∷ answered cs rs

-- the job came from j to k by the calls of xs, whose answers stand in ys
pub record Performed {S : Type 0} (m : Model S) (j : Job S) (xs ys : List Exchange) (k : Job S) : Type 0 where
  pub answers : List Answer
  pub told : ys ≡ answered (calls_of xs) answers
  pub ran : Ran m j.sink (known j) (calls_of xs) answers k.sink (known k)

-- a new job over the sink s performed the calls of xs, whose answers stand in ys; the sink is t then, and the job knows z
pub record Drove {S : Type 0} (m : Model S) (s : S) (xs ys : List Exchange) (t : S) (z : State) : Type 0 where
  pub answers : List Answer
  pub told : ys ≡ answered (calls_of xs) answers
  pub promise : Promise m s (calls_of xs) answers t z
