use Rattle.std.proofs.Common.{ap, rules}
use Rattle.job.specs.States.{state_of}
use Rattle.job.proofs.Lenders.{piled_drove}
use Rattle.job.proofs.drive.drive_piled.Goals as goal

pub returns : goal.returns
returns g c =
    let told = piled_drove g.S.Sink.model _ c.drive-job.result.sink _ _ _ c.drive-job.ensures in
    rw (ap state_of c.setup.ensures) (told _ (search rules))
