-- The numbers of the refusals.
use Rattle.std.specs.Prelude.{ℕ}
use Rattle.witness.specs.declared.refusal.Refusal.{Refusal}
use Rattle.witness.specs.declared.refusal.Refusal.TheVariants.{NotBegun, Letters, Start, Signal, Room, Unsettled, NoStart}

abbrev pub number : Refusal → ℕ
number NotBegun = 20
number Letters = 50
number Start = 51
number Signal = 52
number Room = 53
number (Unsettled n) = 54
number NoStart = 55
