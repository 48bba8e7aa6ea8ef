-- Letters: the signals of an instant in one number.
use Rattle.std.specs.Prelude.{ℕ, ◌/◌, ◌%◌, ◌^◌, Bool, List, ◌==◌, slice_index}
use Rattle.mtl.specs.Formula.{Word}

-- bit a of a letter
abbrev pub holds : ℕ → ℕ → Bool
holds letter a = letter / 2 ^ a % 2 == 1

-- signal a is on at instant i if bit a of letter i is 1
abbrev pub has : List ℕ → Word
has letters i a = holds (slice_index letters i) a
