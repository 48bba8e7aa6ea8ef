use Rattle.mtl.proofs.Witness.{witnessed}
use Rattle.mtl.proofs.theorems.witnessed.Goals as goal

pub returns : goal.returns
returns c = witnessed
