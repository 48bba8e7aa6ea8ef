-- How many cells the clause lists take, and how many literals their longest clauses have.
use Rattle.std.specs.Prelude.{ℕ, zero, suc, ◌+◌, ◌*◌, min, max, cond, Some, None, Option, nat_le}
use Rattle.mtl.specs.declared.cells.Use.{Use}
use Rattle.mtl.specs.declared.cells.Use.TheVariants.{Each, Around, Delayed, Onward, Down}
use Rattle.mtl.specs.declared.operator.Extra.{Extra}
use Rattle.mtl.specs.declared.operator.Extra.TheVariants.{Nothing, Seen, Ahead}
use Rattle.mtl.specs.declared.operator.Shape.{Shape}
use Rattle.mtl.specs.declared.operator.Shape.TheVariants.{Free, Same, Both, Either, Upto, Hold, Any, All}
use Rattle.mtl.specs.declared.row.Row.{Row}
use Rattle.mtl.specs.declared.row.Row.TheVariants.{Signal, Not, And, Or, Next, Until, Release, After, Within, Throughout, Previous, WeakPrevious, Since, Trigger, Ago, Lately, Steadily}
use Rattle.mtl.specs.Rows.{Past, past, distance, operator_of}

-- g a + g (a + 1) + ..., n of them
abbrev pub total : ℕ → ℕ → (ℕ → ℕ) → ℕ
total a zero g = 0
total a (suc n) g = g a + total (suc a) n g

-- c, or 0 where there are none
abbrev pub if_any : ℕ → ℕ → ℕ
if_any zero c = 0
if_any (suc n) c = c

-- One use of a shape over the distance t, where Any and All have t + 1 literals besides the row's own: its clauses, its cells
-- and its longest clause.
abbrev pub shape_clauses : Shape → ℕ → ℕ
shape_clauses Free t = 0
shape_clauses Same t = 2
shape_clauses Both t = 3
shape_clauses Either t = 3
shape_clauses Upto t = 4
shape_clauses Hold t = 4
shape_clauses Any t = t + 2
shape_clauses All t = t + 2

abbrev pub shape_cells : Shape → ℕ → ℕ
shape_cells Free t = 0
shape_cells Same t = 6
shape_cells Both t = 10
shape_cells Either t = 10
shape_cells Upto t = 15
shape_cells Hold t = 15
shape_cells Any t = 4 * t + 6
shape_cells All t = 4 * t + 6

abbrev pub shape_longest : Shape → ℕ → ℕ
shape_longest Free t = 0
shape_longest Same t = 2
shape_longest Both t = 3
shape_longest Either t = 3
shape_longest Upto t = 3
shape_longest Hold t = 3
shape_longest Any t = t + 2
shape_longest All t = t + 2

-- the cells of a use that binds only for one loop start: each clause has one more literal
abbrev pub guarded_cells : Shape → ℕ
guarded_cells s = shape_cells s 0 + shape_clauses s 0

-- how a row uses its operator's shape
abbrev pub use_of : Row → Use
use_of (Signal a) = Each 0
use_of (Not a) = Each 0
use_of (And a b) = Each 0
use_of (Or a b) = Each 0
use_of (Next a) = Around
use_of (Until a b) = Around
use_of (Release a b) = Around
use_of (After a t) = Each t
use_of (Within a t) = Each t
use_of (Throughout a t) = Each t
use_of (Previous a) = Delayed 1
use_of (WeakPrevious a) = Delayed 1
use_of (Since a b) = Onward
use_of (Trigger a b) = Onward
use_of (Ago a t) = Delayed t
use_of (Lately a t) = Down t
use_of (Steadily a t) = Down t

-- how far back a past row reaches, and 0 for any other
abbrev pub reach_of : Option Past → ℕ
reach_of None = 0
reach_of (Some p) = p.reach

-- Cells: a clause of n literals takes n + 1.
-- one clause of the k + 1 loop starts, k of two literals, and the clauses of N(0) and of N(1) to N(k)
abbrev pub begin_cells : ℕ → ℕ
begin_cells k = k + 2 + k * 3 + shape_cells Same 0 + k * shape_cells Either 0

-- at instant i of a row that is delayed by t
abbrev pub delayed_cells_at : Shape → ℕ → ℕ → ℕ
delayed_cells_at s t i = cond (nat_le t i) (shape_cells s 0) 2

abbrev pub use_cells : ℕ → Shape → Use → ℕ
use_cells k s (Each t) = suc k * shape_cells s t
use_cells k s Around = k * shape_cells s 0 + suc k * guarded_cells s
use_cells k s (Delayed t) = total 0 (suc k) (delayed_cells_at s t)
use_cells k s Onward = shape_cells Same 0 + k * shape_cells s 0
use_cells k s (Down t) = total 0 (suc k) (λ i. shape_cells s (min i t))

-- the clauses of the extra variables: E(0), E(1) to E(k) and a clause of two literals, or M(0) to M(t - 1) for each loop start
abbrev pub extra_cells : ℕ → ℕ → Extra → ℕ
extra_cells k t Nothing = 0
extra_cells k t Seen = shape_cells Both 0 + k * shape_cells Upto 0 + 3
extra_cells k t Ahead = t * (suc k * guarded_cells Same)

-- the closing clauses of a row that reaches t back: for the loop start l, one use for each j below t
abbrev pub closed_cells_at : ℕ → ℕ → ℕ
closed_cells_at l j = cond (nat_le (suc j) l) (guarded_cells Same) 3

abbrev pub closing_cells : ℕ → ℕ → ℕ
closing_cells k t = total 0 (suc k) (λ l. total 0 t (closed_cells_at l))

abbrev pub row_cells : ℕ → Row → ℕ
row_cells k r =
    use_cells k (operator_of r).shape (use_of r) + extra_cells k (distance r) (operator_of r).extra
    + closing_cells k (reach_of (past r))

-- Longest clauses.
abbrev pub begin_longest : ℕ → ℕ
begin_longest k = max (max (suc k) (shape_longest Same 0)) (if_any k (shape_longest Either 0))

abbrev pub use_longest : ℕ → Shape → Use → ℕ
use_longest k s (Each t) = shape_longest s t
use_longest k s Around = suc (shape_longest s 0)
use_longest k s (Delayed t) = cond (nat_le t k) (shape_longest s 0) 1
use_longest k s Onward = max (shape_longest Same 0) (if_any k (shape_longest s 0))
use_longest k s (Down t) = shape_longest s (min k t)

abbrev pub extra_longest : ℕ → Extra → ℕ
extra_longest t Nothing = 0
extra_longest t Seen = 3
extra_longest t Ahead = if_any t 3

-- a closing clause has two literals, or three where instant l - 1 - j is there
abbrev pub closing_longest : ℕ → ℕ → ℕ
closing_longest k t = if_any t (max 2 (if_any k 3))

abbrev pub row_longest : ℕ → Row → ℕ
row_longest k r =
    max (max (use_longest k (operator_of r).shape (use_of r)) (extra_longest (distance r) (operator_of r).extra))
    (closing_longest k (reach_of (past r)))
