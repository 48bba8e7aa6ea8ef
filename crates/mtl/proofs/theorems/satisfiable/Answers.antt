use Rattle.mtl.proofs.Witness.{satisfiable}
use Rattle.mtl.proofs.theorems.satisfiable.Goals as goal

pub returns : goal.returns
returns c = satisfiable
