use Rattle.witness.proofs.Trips.{round_trip}
use Rattle.witness.proofs.theorems.round_trip.Goals as goal

pub returns : goal.returns
returns c = round_trip
