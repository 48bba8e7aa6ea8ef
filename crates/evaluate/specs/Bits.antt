-- Sequences of truths in bytes.
use Rattle.std.specs.Prelude.{◌≡◌, ℕ, Bool, List, ◌==◌, slice_index}
use Rattle.mtl.specs.Formula.{Course}
use Rattle.mtl.specs.Runs.{lasso}

-- byte i is 1
abbrev pub bit : List ℕ → ℕ → Bool
bit xs i = slice_index xs i == 1

-- the bytes say s at instant i, one of 0 to k
abbrev pub At : Bool → List ℕ → Course
At s xs i = bit xs i ≡ s

-- the same, all along the endless run
abbrev pub Round : ℕ → ℕ → Bool → List ℕ → Course
Round k l s xs i = bit xs (lasso k l i) ≡ s
