-- An answer of a sink as a number.
use Rattle.std.specs.Prelude.{ℕ, Ok, Err, Result}
use Rattle.cnf.specs.declared.refusal.Refusal.{Refusal}
use Rattle.cnf.specs.Refusals.{number}

abbrev pub answer_number : Result (Unit {0}) Refusal → ℕ
answer_number (Ok u) = 0
answer_number (Err e) = number e
