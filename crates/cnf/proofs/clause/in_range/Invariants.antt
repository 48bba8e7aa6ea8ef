use Rattle.std.proofs.Common.{◌≡◌, drop}
use Rattle.cnf.specs.Clauses.{in_range}
use Rattle.cnf.proofs.clause.in_range.Given as goal

abbrev pub invariant-loop-literal : goal.invariant-loop-literal
invariant-loop-literal l = in_range l.highest (drop l.literal-index l.clause) ≡ in_range l.highest l.clause
