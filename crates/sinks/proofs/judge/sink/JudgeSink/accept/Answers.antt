use Rattle.std.proofs.Common.{rules}
use Rattle.sinks.proofs.Judging.{sat_agrees, fault_in}
use Rattle.sinks.proofs.judge.sink.JudgeSink.accept.Goals as goal

pub returns-then-not-satisfies : goal.returns-then-not-satisfies
returns-then-not-satisfies c = search (rules, sat_agrees, fault_in)

pub returns-else-not-satisfies : goal.returns-else-not-satisfies
returns-else-not-satisfies c = search (rules, sat_agrees, fault_in)
