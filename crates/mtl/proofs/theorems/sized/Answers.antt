use Rattle.mtl.proofs.Sizes.{sized}
use Rattle.mtl.proofs.theorems.sized.Goals as goal

pub returns : goal.returns
returns c = sized
