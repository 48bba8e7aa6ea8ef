use Rattle.std.proofs.Common.{refl}
use Rattle.sinks.proofs.Over.{over-set}
use Rattle.sinks.proofs.line.put.Goals as goal

pub returns : goal.returns
returns c = record { area = over-set _ _ _ c.requires; end = refl }
