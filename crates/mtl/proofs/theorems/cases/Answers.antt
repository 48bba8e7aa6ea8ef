use Rattle.mtl.proofs.Cases.{cases}
use Rattle.mtl.proofs.theorems.cases.Goals as goal

pub returns : goal.returns
returns c = cases
