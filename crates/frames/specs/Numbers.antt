-- The number of each refusal: that of the question which is answered by no.
use Rattle.std.specs.Prelude.{ℕ}
use Rattle.frames.specs.declared.refusals.Refusal.{Refusal}
use Rattle.frames.specs.declared.refusals.Refusal.TheVariants.{Digits, Sum, Kind, Length}

abbrev pub number : Refusal → ℕ
number Digits = 1
number Sum = 2
number Kind = 3
number Length = 4
