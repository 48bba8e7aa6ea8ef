-- The number of each refusal: that of the question which is answered by no.
use Rattle.std.specs.Prelude.{ℕ}
use Rattle.answers.specs.declared.refusals.Refusal.{Refusal}
use Rattle.answers.specs.declared.refusals.Refusal.TheVariants.{TextLength, AreaLength, Status, Form, Variable, Missing}

abbrev pub number : Refusal → ℕ
number TextLength = 43
number AreaLength = 44
number Status = 45
number Form = 46
number Variable = 47
number Missing = 48
