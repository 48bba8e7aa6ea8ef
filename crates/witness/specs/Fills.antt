-- The questions of fill, and what it answers and writes.
use Rattle.std.specs.Prelude.{◌≡◌, ℕ, ◌+◌, ◌*◌, ◌<◌, ◌≤◌, Bool, true, ◌&&◌, List, [], ◌∷◌, length, Ok, Err, Decides, Result, ◌==◌, nat_le}
use Rattle.cnf.specs.Questions.{Question, ask, first_no}
use Rattle.sinks.specs.Models.{assigned}
use Rattle.mtl.specs.declared.row.Row.{Row}
use Rattle.mtl.specs.Runs.{Run}
use Rattle.mtl.specs.Tables.{has_signal}
use Rattle.mtl.specs.Statements.{SettledFor, BelongsTo}
use Rattle.job.specs.Calls.{State, highest}
use Rattle.evaluate.specs.Letters.{has}
use Rattle.evaluate.specs.Truths.{UnsettledAt}
use Rattle.witness.specs.declared.refusal.Refusal.{Refusal}
use Rattle.witness.specs.declared.refusal.Refusal.TheVariants.{NotBegun, Letters, Start, Signal, Room, Unsettled}
use Rattle.witness.specs.Areas.{SameFrom, Bits}

-- every signal that is used has a row
abbrev pub SignalsKnown : List Row → List ℕ → Type 0
SignalsKnown rows letters = (i a : ℕ) → i < length letters → a < 32 → has letters i a ≡ true → has_signal a rows ≡ true

-- the questions before the one whether the run is settled, of a loop start, the number of letters, whether their signals are known,
-- and the lengths of the area and the work area
abbrev pub fill_asks : State → ℕ → ℕ → Bool → ℕ → ℕ → List (Question Refusal)
fill_asks s l letters known area work =
    ask s.begun NotBegun
    ∷ ask (letters == s.bound + 1) Letters
    ∷ ask (nat_le l s.bound) Start
    ∷ ask known Signal
    ∷ ask (nat_le (highest s) area && nat_le (length s.rows * (s.bound + 1)) work) Room
    ∷ []

abbrev pub Answer : Type 0
Answer = Result (Unit {0}) Refusal

abbrev pub early_answer : State → ℕ → ℕ → Bool → ℕ → ℕ → Answer
early_answer s l letters known area work = first_no (fill_asks s l letters known area work) tt

-- the run of a loop start and letters
abbrev pub run_of : (k l : ℕ) → l ≤ k → List ℕ → Run k
run_of k l inside letters = record { loop = l; bounded = inside; letters = has letters }

-- the last question: the run is settled, or the answer names the first row for which it is not
abbrev pub SettledAnswer : State → ℕ → List ℕ → Answer → Type 0
SettledAnswer s l letters (Ok _) = (inside : l ≤ s.bound) → SettledFor (run_of s.bound l inside letters) s.rows
SettledAnswer s l letters (Err e) = (n : ℕ) × (e ≡ Unsettled n) × UnsettledAt s.bound l letters s.rows n

-- the first no is the answer: that of the earlier questions, or else that of the last one
abbrev pub Then : Answer → (Answer → Type 0) → Answer → Type 0
Then (Ok _) P r = P r
Then (Err e) P r = r ≡ Err e

abbrev pub FillAnswer : State → ℕ → List ℕ → ℕ → ℕ → Answer → Type 0
FillAnswer s l letters area work r =
    (known : Bool) × Decides known (SignalsKnown s.rows letters)
    × Then (early_answer s l (length letters) known area work) (SettledAnswer s l letters) r

-- the earlier questions are answered yes, so that the last one gives the answer
abbrev pub EarlyYes : State → ℕ → List ℕ → ℕ → ℕ → Type 0
EarlyYes s l letters area work =
    (known : Bool) × Decides known (SignalsKnown s.rows letters) × (Ok tt ≡ early_answer s l (length letters) known area work)

-- what an accepted fill leaves in the area
pub record Filled (s : State) (l : ℕ) (letters before after : List ℕ) : Type 0 where
  pub inside : l ≤ s.bound
  pub belongs : BelongsTo (assigned after) (run_of s.bound l inside letters) s.rows
  pub bits : Bits 0 (highest s) after
  pub rest : SameFrom (highest s) after before
