use Rattle.script.proofs.Cutting.{script_cut}
use Rattle.script.proofs.theorems.script_cut.Goals as goal

pub returns : goal.returns
returns g c = script_cut g.S.Sink.model
