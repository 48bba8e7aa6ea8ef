use Rattle.mtl.proofs.OneRun.{one_run}
use Rattle.mtl.proofs.theorems.one_run.Goals as goal

pub returns : goal.returns
returns c = one_run
