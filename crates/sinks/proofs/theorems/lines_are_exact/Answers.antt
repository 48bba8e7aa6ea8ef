use Rattle.sinks.proofs.Reading.{lines_exact}
use Rattle.sinks.proofs.theorems.lines_are_exact.Goals as goal

pub returns : goal.returns
returns c = lines_exact
