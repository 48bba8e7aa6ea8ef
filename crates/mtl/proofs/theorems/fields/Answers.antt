use Rattle.mtl.proofs.Cases.{fields}
use Rattle.mtl.proofs.theorems.fields.Goals as goal

pub returns : goal.returns
returns c = fields
