use Rattle.std.proofs.Common.{◌≡◌, ◌++◌, map, take, drop}
use Rattle.answers.specs.Values.{bit}
use Rattle.answers.proofs.valuation.write.Given as goal

abbrev pub invariant-loop-i : goal.invariant-loop-i
invariant-loop-i l = l.area ≡ map bit (take l.i l.values) ++ drop l.i l.initial.area
