use Rattle.script.proofs.Cutting.{file_cut}
use Rattle.script.proofs.theorems.file_cut.Goals as goal

pub returns : goal.returns
returns c = file_cut
