use Rattle.std.proofs.Common.{◌≡◌, drop}
use Rattle.cnf.specs.Clauses.{sat}
use Rattle.sinks.specs.Models.{assigned}
use Rattle.sinks.proofs.judge.sink.satisfies.Given as goal

abbrev pub invariant-loop-literal : goal.invariant-loop-literal
invariant-loop-literal l = sat (assigned l.area) (drop l.literal-index l.clause) ≡ sat (assigned l.area) l.clause
