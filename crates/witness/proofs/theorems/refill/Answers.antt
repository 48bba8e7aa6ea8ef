use Rattle.witness.proofs.Trips.{refill}
use Rattle.witness.proofs.theorems.refill.Goals as goal

pub returns : goal.returns
returns c = refill
