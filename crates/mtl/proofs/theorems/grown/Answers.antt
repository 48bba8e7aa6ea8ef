use Rattle.mtl.proofs.Grown.{grown}
use Rattle.mtl.proofs.theorems.grown.Goals as goal

pub returns : goal.returns
returns c = grown
