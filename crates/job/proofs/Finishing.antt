-- The last questions of a call, and what comes of them.
use Rattle.std.proofs.Common.{◌≡◌, ℕ, Ok, Err, Result, sym, refl, ap, ◌∙◌}
use Rattle.cnf.specs.Clauses.{Clauses}
use Rattle.cnf.specs.Questions.{first_no}
use Rattle.cnf.specs.Sinks.{Model}
use Rattle.job.specs.declared.cost.Cost.{Cost}
use Rattle.job.specs.Costs.{Costs}
use Rattle.job.specs.declared.refusal.Refusal.{Refusal}
use Rattle.job.specs.declared.call.Reply.{Reply}
use Rattle.job.specs.declared.job.Job.{Job}
use Rattle.job.specs.Calls.{State, highest, limits, sink_asks}
use Rattle.job.specs.Feeding.{TakenAll}
use Rattle.job.specs.Steps.{known, Finishing}
use Rattle.job.proofs.Limits.{limits_are, turned, first_no_turned}

module _ {S : Type 0} (m : Model S) (j : Job S) (cs : Clauses) (s : State) (x : Reply) (t : Cost) (v : ℕ) (counted : Costs cs t) (top : v ≡ highest s) where
  asked_is : (r : Result (Unit {0}) Refusal) → r ≡ first_no (limits (m.longest j.sink) (m.highest j.sink) (m.cells j.sink) t.longest v t.cells) tt → turned x r ≡ first_no (sink_asks m j.sink (highest s) cs) x
  asked_is r e =
      ap (turned x) (e ∙ limits_are m j.sink cs t v counted tt)
      ∙ sym (first_no_turned (sink_asks m j.sink v cs) tt x)
      ∙ ap (λ n. first_no (sink_asks m j.sink n cs) x) top

  pub finished : (k : Job S) → ◌≡◌ {A = Result (Unit {0}) Refusal} (Ok tt) (first_no (limits (m.longest j.sink) (m.highest j.sink) (m.cells j.sink) t.longest v t.cells) tt) → known k ≡ s → TakenAll m cs j.sink k.sink → Finishing m j cs s x (Ok x) k
  finished k e known taken = record { answer = asked_is (Ok tt) e; came = (known, taken) }

  pub not_finished : (r : Refusal) → ◌≡◌ {A = Result (Unit {0}) Refusal} (Err r) (first_no (limits (m.longest j.sink) (m.highest j.sink) (m.cells j.sink) t.longest v t.cells) tt) → Finishing m j cs s x (Err r) j
  not_finished r e = record { answer = asked_is (Err r) e; came = refl }
