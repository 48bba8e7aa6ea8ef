-- Which rows make a table, the requirements on one, and all the clauses of a job.
use Rattle.std.specs.Prelude.{ℕ, suc, ◌<◌, ◌≤◌, Bool, true, false, cond, not, ◌&&◌, ◌||◌, List, [], ◌∷◌, ◌++◌, length, Some, None, MatchBool, Option, ◌==◌, nat_le, nat_lt, slice_index_or}
use Rattle.cnf.specs.Clauses.{Clauses}
use Rattle.mtl.specs.declared.row.Row.{Row}
use Rattle.mtl.specs.declared.row.Row.TheVariants.{Signal}
use Rattle.mtl.specs.declared.requirement.Requirement.{Requirement}
use Rattle.mtl.specs.Formula.{Word, Sat}
use Rattle.mtl.specs.Shapes.{given, unit}
use Rattle.mtl.specs.Rows.{operands, distance, signal_of}
use Rattle.mtl.specs.Lists.{begin, clauses, value}
use Rattle.mtl.specs.Runs.{formula}

-- Here rows stand with the oldest first, so that a row's number is its place.
abbrev pub row_at : List Row → ℕ → Option Row
row_at rs n = cond (nat_lt n (length rs)) (Some (slice_index_or rs n (Signal 0))) None

abbrev pub all_below : ℕ → List ℕ → Bool
all_below n [] = true
all_below n (m ∷ ms) = nat_lt m n && all_below n ms

-- the signal, if any, is a
abbrev pub names : ℕ → Option ℕ → Bool
names a None = false
names a (Some b) = a == b

abbrev pub is_signal : ℕ → Row → Bool
is_signal a r = names a (signal_of r)

abbrev pub has_signal : ℕ → List Row → Bool
has_signal a [] = false
has_signal a (r ∷ rs) = is_signal a r || has_signal a rs

-- the signal's row among the rows, which are numbered from n on
abbrev pub row_of : ℕ → ℕ → List Row → Option ℕ
row_of n a [] = None
row_of n a (r ∷ rs) = cond (is_signal a r) (Some n) (row_of (suc n) a rs)

-- the signal, if any, is at most 31 and has no row yet
abbrev pub is_new : List Row → Option ℕ → Bool
is_new rs None = true
is_new rs (Some a) = nat_le a 31 && not (has_signal a rs)

-- the row may come after the rows rs: its operands are among them, its distance is at most 31, its signal is new
abbrev pub fits_after : List Row → Row → Bool
fits_after rs r = all_below (length rs) (operands r) && nat_le (distance r) 31 && is_new rs (signal_of r)

abbrev pub lawful_after : List Row → List Row → Bool
lawful_after before [] = true
lawful_after before (r ∷ rs) = fits_after before r && lawful_after (before ++ r ∷ []) rs

-- each row may come after those before it
abbrev pub lawful : List Row → Bool
lawful rs = lawful_after [] rs

-- In what follows the newest row stands first.
-- each requirement names one of n rows and an instant from 0 to k
abbrev pub Asked : ℕ → ℕ → List Requirement → Type 0
Asked k n [] = Unit {0}
Asked k n (q ∷ qs) = (q.row < n) × (q.instant ≤ k) × Asked k n qs

-- the unit clauses of the requirements
abbrev pub requires : ℕ → List Row → List Requirement → Clauses
requires k rs [] = []
requires k rs (q ∷ qs) = unit (given q.value (value k rs q.row q.instant)) ++ requires k rs qs

-- each row that is required has the truth that is required of it
abbrev pub Keeps : Word → List Row → List Requirement → Type 0
Keeps w rs [] = Unit {0}
Keeps w rs (q ∷ qs) =
    MatchBool q.value (Sat w (formula rs q.row) q.instant) (Sat w (formula rs q.row) q.instant → ⊥) × Keeps w rs qs

-- all the clauses of a job
abbrev pub job : ℕ → List Row → List Requirement → Clauses
job k rs qs = begin k ++ clauses k rs ++ requires k rs qs
