use Rattle.job.proofs.Driving.{drove}
use Rattle.job.proofs.drive.drive.Goals as goal

pub returns : goal.returns
returns g c = drove g.S.Sink.model c.args.sink c.new-made.result c.perform_all.new.job _ _ c.new-made.ensures.sink c.new-made.ensures.fresh c.perform_all.ensures
