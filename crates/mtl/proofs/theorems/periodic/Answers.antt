use Rattle.mtl.proofs.Witness.{periodic}
use Rattle.mtl.proofs.theorems.periodic.Goals as goal

pub returns : goal.returns
returns c = periodic
