use Rattle.sinks.proofs.Worked.{cases}
use Rattle.sinks.proofs.theorems.worked_cases.Goals as goal

pub returns : goal.returns
returns c = cases
