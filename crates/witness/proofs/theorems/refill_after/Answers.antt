use Rattle.witness.proofs.Trips.{refill_after}
use Rattle.witness.proofs.theorems.refill_after.Goals as goal

pub returns : goal.returns
returns g c = refill_after g.S.Sink.model
