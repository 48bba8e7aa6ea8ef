use Rattle.cases.proofs.Worked.{cases}
use Rattle.cases.proofs.ten_cases.Goals as goal

pub returns : goal.returns
returns c = cases
