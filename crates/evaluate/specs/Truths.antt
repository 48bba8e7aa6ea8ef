-- Tables whose lines tell the truth. Tables stand with the oldest row first.
use Rattle.std.specs.Prelude.{ℕ, ◌<◌, Bool, List, reverse, length, take, Decides, slice_index_or}
use Rattle.mtl.specs.declared.row.Row.{Row}
use Rattle.mtl.specs.declared.row.Row.TheVariants.{Signal}
use Rattle.mtl.specs.Formula.{Sat}
use Rattle.mtl.specs.Runs.{lasso, word, formula, form, Settled, SettledRow}
use Rattle.evaluate.specs.Letters.{has}
use Rattle.evaluate.specs.Bits.{bit}
use Rattle.evaluate.specs.Lines.{line}

-- row n of a table
abbrev pub row_at : List Row → ℕ → Row
row_at rows n = slice_index_or rows n (Signal 0)

-- the first n rows, the newest first
abbrev pub older : List Row → ℕ → List Row
older rows n = reverse (take n rows)

-- what line m says at instant i
abbrev pub cell : ℕ → List ℕ → ℕ → ℕ → Bool
cell k work m i = bit (line k work m) i

-- lines 0 to n - 1 tell the truth of the rows rs, the newest first, all along the endless run
abbrev pub Known : ℕ → ℕ → List ℕ → List Row → List ℕ → ℕ → Type 0
Known k l letters rs work n = (m : ℕ) → m < n → (i : ℕ) → Decides (cell k work m (lasso k l i)) (Sat (word k l (has letters)) (formula rs m) i)

-- line n tells the truth of the row r after the rows rs, at the instants below j
abbrev pub Written : ℕ → ℕ → List ℕ → List Row → List ℕ → ℕ → Row → ℕ → Type 0
Written k l letters rs work n r j = (i : ℕ) → i < j → Decides (cell k work n i) (Sat (word k l (has letters)) (form (formula rs) r) i)

-- the run is settled for every row, and each line says its row's truth, all along the endless run
pub record Evaluated (k l : ℕ) (letters : List ℕ) (rows : List Row) (work : List ℕ) : Type 0 where
  pub settled : Settled k l (word k l (has letters)) (reverse rows)
  pub says : Known k l letters (reverse rows) work (length rows)

-- row n is the first for which the run is not settled
pub record UnsettledAt (k l : ℕ) (letters : List ℕ) (rows : List Row) (n : ℕ) : Type 0 where
  pub row : n < length rows
  pub earlier : Settled k l (word k l (has letters)) (older rows n)
  pub fails : SettledRow k l (word k l (has letters)) (formula (older rows n)) (row_at rows n) → ⊥
  pub never : Settled k l (word k l (has letters)) (reverse rows) → ⊥
