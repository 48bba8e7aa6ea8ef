use Rattle.std.proofs.Common.{sym, subst}
use Rattle.job.specs.States.{state_of}
use Rattle.script.specs.Scripts.{DroveScript}
use Rattle.script.proofs.Making.{drove_script}
use Rattle.script.proofs.running.drive_script.Goals as goal

pub returns : goal.returns
returns g c =
    let m = g.S.Sink.model in
    let text = c.args.script.now in
    let r = c.perform_script-result.result in
    let job = c.perform_script-result.new.job in
    let drove = drove_script m c.args.sink c.new-job.result job text r c.new-job.ensures.sink c.new-job.ensures.fresh c.perform_script-result.ensures in
    subst (λ s. DroveScript m c.args.sink text r s (state_of c.setup-setup.result.now)) (sym c.into_sink.ensures)
    (subst (λ x. DroveScript m c.args.sink text r job.sink (state_of x)) (sym c.setup-setup.ensures) drove)
