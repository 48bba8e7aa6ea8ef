use Rattle.script.proofs.Sameness.{same_script}
use Rattle.script.proofs.theorems.same_script.Goals as goal

pub returns : goal.returns
returns g c = same_script g.S.Sink.model g.T.Sink.model
