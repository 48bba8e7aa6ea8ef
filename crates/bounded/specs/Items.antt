-- What a bounded list holds.
use Rattle.std.specs.Prelude.{ℕ, List, take}
use Rattle.bounded.specs.declared.bounded.Bounded.{Bounded}

-- the values, in the order in which they came
abbrev pub items : {T : Type 0} {N : ℕ} → Bounded T N → List T
items b = take b.len b.places
