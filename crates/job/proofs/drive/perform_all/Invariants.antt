use Rattle.job.proofs.Driving.{SoFar}
use Rattle.job.proofs.drive.perform_all.Given as goal

abbrev pub invariant-loop-exchange : goal.invariant-loop-exchange
invariant-loop-exchange g l = SoFar g.S.Sink.model l.initial.job l.initial.exchanges l.exchange-index l.exchanges l.job
