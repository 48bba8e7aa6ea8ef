-- The theorems, as statements that contracts cite. Rows stand with the oldest first.
use Rattle.std.specs.Prelude.{◌≡◌, ℕ, ◌+◌, ◌-◌, ◌*◌, ◌<◌, ◌≤◌, Bool, true, false, ◌↔◌, List, [], ◌∷◌, ◌++◌, reverse, length}
use Rattle.cnf.specs.Clauses.{Assignment, Clauses, sat_all, cells_of, longest_of, all_in_range}
use Rattle.mtl.specs.declared.row.Row.{Row}
use Rattle.mtl.specs.declared.requirement.Requirement.{Requirement}
use Rattle.mtl.specs.Formula.{Sat}
use Rattle.mtl.specs.Lists.{begin, period, top, start, added, clauses}
use Rattle.mtl.specs.Runs.{Run, endless_word, formula, Settled, Belongs}
use Rattle.mtl.specs.Sizes.{begin_cells, row_cells, begin_longest, row_longest}
use Rattle.mtl.specs.Tables.{has_signal, fits_after, lawful, requires, Asked, Keeps, job}

-- row n is true at instant i of the run
abbrev pub TrueAt : {k : ℕ} → Run k → List Row → ℕ → ℕ → Type 0
TrueAt run rows n i = Sat (endless_word run) (formula (reverse rows) n) i

-- the run is settled for the rows
abbrev pub SettledFor : {k : ℕ} → Run k → List Row → Type 0
SettledFor {k} run rows = Settled k run.loop (endless_word run) (reverse rows)

-- the assignment says of every variable what it stands for on the run
abbrev pub BelongsTo : {k : ℕ} → Assignment → Run k → List Row → Type 0
BelongsTo {k} α run rows = Belongs k run.loop (endless_word run) α (reverse rows)

-- the run is settled for the rows and keeps the requirements
pub record Obeys (k : ℕ) (rows : List Row) (qs : List Requirement) (run : Run k) : Type 0 where
  pub settled : SettledFor run rows
  pub keeps : Keeps (endless_word run) (reverse rows) qs

-- an assignment satisfies a job's clauses exactly when it belongs to a settled run that keeps the requirements
abbrev pub Exact : Type 0
Exact =
    (k : ℕ) (rows : List Row) (qs : List Requirement) (α : Assignment) → lawful rows ≡ true → Asked k (length rows) qs
    → (sat_all α (job k (reverse rows) qs) ≡ true) ↔ ((run : Run k) × Obeys k rows qs run × BelongsTo α run rows)

-- every settled run has an assignment that belongs to it
abbrev pub Witnessed : Type 0
Witnessed = (k : ℕ) (rows : List Row) (run : Run k) → lawful rows ≡ true → SettledFor run rows → (α : Assignment) × BelongsTo α run rows

-- so a job's clauses can be satisfied exactly when there is a settled run that keeps the requirements
abbrev pub Satisfiable : Type 0
Satisfiable =
    (k : ℕ) (rows : List Row) (qs : List Requirement) → lawful rows ≡ true → Asked k (length rows) qs
    → ((α : Assignment) × (sat_all α (job k (reverse rows) qs) ≡ true)) ↔ ((run : Run k) × Obeys k rows qs run)

-- on a settled run the truth of every row goes round with the loop
abbrev pub Periodic : Type 0
Periodic =
    (k : ℕ) (rows : List Row) (run : Run k) → lawful rows ≡ true → SettledFor run rows
    → (n : ℕ) → n < length rows → (i : ℕ) → run.loop ≤ i → TrueAt run rows n i ↔ TrueAt run rows n (i + period k run.loop)

-- two runs have the same loop start, and at each instant the same signals, of those that have a row
pub record Agree (k : ℕ) (rows : List Row) (p q : Run k) : Type 0 where
  pub loop : p.loop ≡ q.loop
  pub letters : (i a : ℕ) → i ≤ k → has_signal a rows ≡ true → p.letters i a ≡ q.letters i a

-- an assignment belongs to one run, as far as the signals with a row go, and runs that agree there agree on every row
pub record OneRun : Type 0 where
  pub once : (k : ℕ) (rows : List Row) (α : Assignment) (p q : Run k) → BelongsTo α p rows → BelongsTo α q rows → Agree k rows p q
  pub alike :
      (k : ℕ) (rows : List Row) (p q : Run k) → lawful rows ≡ true → Agree k rows p q
      → (n : ℕ) → n < length rows → (i : ℕ) → TrueAt p rows n i ↔ TrueAt q rows n i

abbrev pub none_empty : Clauses → Bool
none_empty [] = true
none_empty ([] ∷ cs) = false
none_empty ((l ∷ ls) ∷ cs) = none_empty cs

-- a sink whose highest variable is n can take the list: its variables lie between 1 and n, and no clause is empty
pub record Takes (n : ℕ) (cs : Clauses) : Type 0 where
  pub ranged : all_in_range n cs ≡ true
  pub full : none_empty cs ≡ true

-- the variables of begin are 1 to 2k + 2, and a table's are those below its top
pub record Ranged : Type 0 where
  pub begins : (k : ℕ) → Takes (2 * k + 2) (begin k)
  pub row_added : (k : ℕ) (rows : List Row) (r : Row) → fits_after rows r ≡ true → Takes (top k (r ∷ reverse rows) - 1) (added k (reverse rows) r)
  pub required :
      (k : ℕ) (rows : List Row) (qs : List Requirement) → Asked k (length rows) qs
      → Takes (top k (reverse rows) - 1) (requires k (reverse rows) qs)
  pub whole :
      (k : ℕ) (rows : List Row) (qs : List Requirement) → lawful rows ≡ true → Asked k (length rows) qs
      → Takes (top k (reverse rows) - 1) (job k (reverse rows) qs)

-- the cells and the longest clause of begin's list, and of the list of a row that comes after the rows
pub record Sized : Type 0 where
  pub begins : (k : ℕ) → cells_of (begin k) ≡ begin_cells k
  pub row_added : (k : ℕ) (rows : List Row) (r : Row) → cells_of (added k (reverse rows) r) ≡ row_cells k r
  pub begins_longest : (k : ℕ) → longest_of (begin k) ≡ begin_longest k
  pub row_added_longest : (k : ℕ) (rows : List Row) (r : Row) → longest_of (added k (reverse rows) r) ≡ row_longest k r

-- a row that is added has its clauses after those of the earlier rows, and leaves their variables and formulas as they were
pub record Grown : Type 0 where
  pub clauses_more : (k : ℕ) (rows : List Row) (r : Row) → clauses k (reverse (rows ++ r ∷ [])) ≡ clauses k (reverse rows) ++ added k (reverse rows) r
  pub start_stays : (k : ℕ) (rows : List Row) (r : Row) (n : ℕ) → n < length rows → start k (reverse (rows ++ r ∷ [])) n ≡ start k (reverse rows) n
  pub formula_stays : (rows : List Row) (r : Row) (n : ℕ) → n < length rows → formula (reverse (rows ++ r ∷ [])) n ≡ formula (reverse rows) n
