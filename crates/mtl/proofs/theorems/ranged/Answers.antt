use Rattle.mtl.proofs.Ranged.{ranged}
use Rattle.mtl.proofs.theorems.ranged.Goals as goal

pub returns : goal.returns
returns c = ranged
