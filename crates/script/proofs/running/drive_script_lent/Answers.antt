use Rattle.std.proofs.Common.{rules}
use Rattle.script.proofs.Making.{lent_script}
use Rattle.script.proofs.running.drive_script_lent.Goals as goal

pub returns : goal.returns
returns g c = lent_script g.S.Sink.model _ _ _ _ _ c.drive_script.ensures _ (search rules)
