-- The numbers of the refusals.
use Rattle.std.specs.Prelude.{ℕ}
use Rattle.job.specs.declared.refusal.Refusal.{Refusal}
use Rattle.job.specs.declared.refusal.Refusal.TheVariants.{Begun, Bound, Long, Variables, Cells, NotBegun, Full, Code, Unused, Operand, Signal, Distance, NoRow, Instant, Value, Requirements}

abbrev pub number : Refusal → ℕ
number Begun = 10
number Bound = 11
number Long = 12
number Variables = 13
number Cells = 14
number NotBegun = 20
number Full = 21
number Code = 22
number Unused = 23
number Operand = 24
number Signal = 25
number Distance = 26
number NoRow = 30
number Instant = 31
number Value = 32
number Requirements = 33
