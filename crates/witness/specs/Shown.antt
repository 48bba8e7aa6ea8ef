-- The run that an assignment shows: the questions of run, and what it answers and writes.
use Rattle.std.specs.Prelude.{◌≡◌, ℕ, zero, suc, ◌+◌, ◌<◌, ◌≤◌, Bool, true, false, cond, List, [], ◌∷◌, reverse, length, Some, None, Ok, Err, Option, Result, ◌==◌, ◌≢◌, nat_le}
use Rattle.cnf.specs.Clauses.{Assignment, truth}
use Rattle.cnf.specs.Questions.{Question, ask, first_no}
use Rattle.sinks.specs.Models.{assigned}
use Rattle.mtl.specs.declared.row.Row.{Row}
use Rattle.mtl.specs.Formula.{Word}
use Rattle.mtl.specs.Lists.{starts, value}
use Rattle.mtl.specs.Runs.{Run}
use Rattle.mtl.specs.Tables.{has_signal, row_of}
use Rattle.mtl.specs.Statements.{BelongsTo}
use Rattle.job.specs.Calls.{State, highest}
use Rattle.evaluate.specs.Letters.{has}
use Rattle.witness.specs.declared.refusal.Refusal.{Refusal}
use Rattle.witness.specs.declared.refusal.Refusal.TheVariants.{NotBegun, Letters, Room, NoStart}

-- how many of L(0) to L(n - 1) are true
abbrev pub starts_true : Assignment → ℕ → ℕ
starts_true α zero = 0
starts_true α (suc i) = cond (truth α (starts i)) 1 0 + starts_true α i

-- the last instant below n whose L is true
abbrev pub start_below : Assignment → ℕ → ℕ
start_below α zero = 0
start_below α (suc i) = cond (truth α (starts i)) i (start_below α i)

-- the questions of run, of an area and the number of letters that there is room for
abbrev pub run_asks : State → List ℕ → ℕ → List (Question Refusal)
run_asks s area letters =
    ask s.begun NotBegun
    ∷ ask (letters == s.bound + 1) Letters
    ∷ ask (nat_le (highest s) (length area)) Room
    ∷ ask (starts_true (assigned area) (s.bound + 1) == 1) NoStart
    ∷ []

-- the first no, or else the one loop start
abbrev pub run_answer : State → List ℕ → ℕ → Result ℕ Refusal
run_answer s area letters = first_no (run_asks s area letters) (start_below (assigned area) (s.bound + 1))

-- V(i) of a row; a signal that has none is off
abbrev pub row_shown : ℕ → Assignment → List Row → ℕ → Option ℕ → Bool
row_shown k α rows i None = false
row_shown k α rows i (Some n) = truth α (value k (reverse rows) n i)

-- the signals that an assignment shows at each instant
abbrev pub shown : ℕ → Assignment → List Row → Word
shown k α rows i a = row_shown k α rows i (row_of 0 a rows)

abbrev pub LettersShown : ℕ → Assignment → List Row → List ℕ → Type 0
LettersShown k α rows letters = (i a : ℕ) → i ≤ k → a < 32 → has letters i a ≡ shown k α rows i a

-- a loop start and letters are those of the run, on the signals that have a row; the other signals are off
pub record IsRun (k : ℕ) (rows : List Row) (run : Run k) (l : ℕ) (letters : List ℕ) : Type 0 where
  pub loop : l ≡ run.loop
  pub on : (i a : ℕ) → i ≤ k → has_signal a rows ≡ true → has letters i a ≡ run.letters i a
  pub off : (i a : ℕ) → i ≤ k → a < 32 → has_signal a rows ≡ false → has letters i a ≡ false

-- an assignment that belongs to a run has a loop start, and if the call accepts it, that run comes out
abbrev pub ComesOut : State → List ℕ → Result ℕ Refusal → List ℕ → Type 0
ComesOut s area (Ok l) letters = (run : Run s.bound) → BelongsTo (assigned area) run s.rows → IsRun s.bound s.rows run l letters
ComesOut s area (Err e) letters = (run : Run s.bound) → BelongsTo (assigned area) run s.rows → e ≢ NoStart
