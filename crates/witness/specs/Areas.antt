-- What the bytes of an area say.
use Rattle.std.specs.Prelude.{◌≡◌, ℕ, ◌+◌, ◌<◌, ◌≤◌, List, Decides, slice_index}
use Rattle.mtl.specs.Formula.{Course}
use Rattle.evaluate.specs.Bits.{bit}

-- the bytes from a on, and those below a, are alike
abbrev pub SameFrom : ℕ → List ℕ → List ℕ → Type 0
SameFrom a xs ys = (j : ℕ) → a ≤ j → slice_index xs j ≡ slice_index ys j

abbrev pub SameBelow : ℕ → List ℕ → List ℕ → Type 0
SameBelow a xs ys = (j : ℕ) → j < a → slice_index xs j ≡ slice_index ys j

-- the bytes from a to b - 1 are 0 or 1
abbrev pub Bits : ℕ → ℕ → List ℕ → Type 0
Bits a b xs = (j : ℕ) → a ≤ j → j < b → slice_index xs j ≤ 1

-- the n bytes from a on tell the truth of S
abbrev pub Tell : List ℕ → ℕ → ℕ → Course → Type 0
Tell area a n S = (i : ℕ) → i < n → Decides (bit area (a + i)) (S i)
