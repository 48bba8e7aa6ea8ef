use Rattle.mtl.proofs.Exact.{exact}
use Rattle.mtl.proofs.theorems.exact.Goals as goal

pub returns : goal.returns
returns c = exact
