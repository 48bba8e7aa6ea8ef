use Rattle.std.proofs.Common.{◌≡◌, ◌≤◌, drop}
use Rattle.answers.specs.Words.{tens}
use Rattle.answers.specs.Cap.{capped}
use Rattle.answers.proofs.numbers.read_digits.Given as goal

abbrev pub invariant-loop-c : goal.invariant-loop-c
invariant-loop-c l = (l.n ≤ 10000) × (capped (tens l.digits 0) ≡ capped (tens (drop l.c-index l.digits) l.n))
