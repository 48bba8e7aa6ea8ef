-- The rows of a table, and how many variables they have.
use Rattle.std.specs.Prelude.{ℕ, suc, ◌+◌, ◌*◌, max, List, reverse, sum_by}
use Rattle.bounded.specs.Items.{items}
use Rattle.mtl.specs.declared.row.Row.{Row}
use Rattle.mtl.specs.declared.table.Table.{Table}
use Rattle.mtl.specs.Rows.{extra}

-- the oldest row first
abbrev pub rows_of : Table → List Row
rows_of t = items t.rows

-- the newest row first
abbrev pub newest_of : Table → List Row
newest_of t = reverse (rows_of t)

-- how many variables a row has
abbrev pub size : ℕ → Row → ℕ
size k r = suc k + extra k r

abbrev pub sizes : ℕ → List Row → ℕ
sizes k rs = sum_by (size k) rs

-- no table has more variables than this for the bound k: 32 rows, whose distances are at most 31.
-- For k up to 31 it is at most 2k + 2 + 32 * 64.
abbrev pub most : ℕ → ℕ
most k = 2 * k + 2 + 32 * (suc k + max (suc k) 31)
