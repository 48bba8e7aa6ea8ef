-- What fill makes of a run, run reads back, and what run reads from an assignment, fill makes again.
use Rattle.std.specs.Prelude.{◌≡◌, ℕ, ◌+◌, ◌^◌, ◌<◌, ◌≤◌, true, List, length, Ok, slice_index}
use Rattle.cnf.specs.Sinks.{Model}
use Rattle.sinks.specs.Models.{assigned}
use Rattle.mtl.specs.Tables.{Asked, lawful}
use Rattle.mtl.specs.Statements.{Obeys}
use Rattle.calls.specs.declared.Call.{Call}
use Rattle.job.specs.Calls.{State, Answer, fresh, highest}
use Rattle.job.specs.Runs.{Ran, Shows}
use Rattle.evaluate.specs.Letters.{has}
use Rattle.witness.specs.Areas.{Bits}
use Rattle.witness.specs.Fills.{SignalsKnown, run_of, FillAnswer, Filled}
use Rattle.witness.specs.Shown.{run_answer, LettersShown}

-- letters are numbers below 2^32
abbrev pub Words : List ℕ → Type 0
Words letters = (i : ℕ) → slice_index letters i < 2 ^ 32

-- run accepts what fill wrote, and answers the same loop start and the same letters
pub record ComesBack (s : State) (l : ℕ) (letters area : List ℕ) : Type 0 where
  pub answer : run_answer s area (length letters) ≡ Ok l
  pub signals : (back : List ℕ) → LettersShown s.bound (assigned area) s.rows back → (i a : ℕ) → i ≤ s.bound → a < 32 → has back i a ≡ has letters i a
  pub unchanged : (back : List ℕ) → LettersShown s.bound (assigned area) s.rows back → length back ≡ length letters → Words back → Words letters → back ≡ letters

abbrev pub RoundTrip : Type 0
RoundTrip =
    (s : State) (l : ℕ) (letters before after : List ℕ) (work : ℕ) → lawful s.rows ≡ true → length after ≡ length before
    → FillAnswer s l letters (length before) work (Ok tt) → Filled s l letters before after → ComesBack s l letters after

-- the run that is read from the area is settled and keeps every requirement, its signals have rows,
-- and an area that fill wrote for it has the same variables; the same bytes, where those of the first area are 0 or 1
pub record FilledAgain (s : State) (area : List ℕ) (l : ℕ) (letters : List ℕ) : Type 0 where
  pub inside : l ≤ s.bound
  pub obeys : Obeys s.bound s.rows s.kept (run_of s.bound l inside letters)
  pub known : length letters ≡ s.bound + 1 → SignalsKnown s.rows letters
  pub variables : (before after : List ℕ) → Filled s l letters before after → (v : ℕ) → 1 ≤ v → v ≤ highest s → assigned after v ≡ assigned area v
  pub bytes : (before after : List ℕ) → Filled s l letters before after → Bits 0 (highest s) area → (j : ℕ) → j < highest s → slice_index after j ≡ slice_index area j

abbrev pub Refill : Type 0
Refill =
    (s : State) (area : List ℕ) (l room : ℕ) (letters : List ℕ) → lawful s.rows ≡ true → Asked s.bound (length s.rows) s.kept
    → Shows s (assigned area) → run_answer s area room ≡ Ok l → LettersShown s.bound (assigned area) s.rows letters
    → FilledAgain s area l letters

-- the same of what a new job over a sink knows after any list of calls
abbrev pub RefillAfter : {S : Type 0} → Model S → Type 0
RefillAfter {S} m =
    (k k' : S) (cs : List Call) (rs : List Answer) (s : State) → Ran m k fresh cs rs k' s
    → (area : List ℕ) (l room : ℕ) (letters : List ℕ) → Shows s (assigned area) → run_answer s area room ≡ Ok l
    → LettersShown s.bound (assigned area) s.rows letters → FilledAgain s area l letters
