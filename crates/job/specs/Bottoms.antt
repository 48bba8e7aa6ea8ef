-- A list of calls over a writer to the caller's area, and over a judge by it.
use Rattle.std.specs.Prelude.{◌≡◌, ℕ, ◌+◌, true, cond, ◌↔◌, List, [], ◌∷◌, map, length, take, Some}
use Rattle.std.specs.List.{flat_map}
use Rattle.cnf.specs.Clauses.{Assignment, Clauses, negated, sat}
use Rattle.cnf.specs.Layers.{switch_model}
use Rattle.sinks.specs.declared.writer.Writer.{Writer}
use Rattle.sinks.specs.declared.judge.Judge.{Judge}
use Rattle.sinks.specs.Lines.{line, over, read, all_true}
use Rattle.sinks.specs.Models.{writer_model, NewWriter, judge_model, NewJudge, assigned}
use Rattle.job.specs.declared.call.Exchange.{Exchange}
use Rattle.job.specs.declared.bottom.Written.{Written}
use Rattle.job.specs.Calls.{State, Answer, fresh, highest}
use Rattle.job.specs.Runs.{written, Possible, Shows, Promise}
use Rattle.job.specs.Drives.{calls_of, answered}

-- the lines of the clauses stand at the front of the area, n bytes in all, and every byte behind them is as it was
pub record LinesStand (cs : Clauses) (before after : List ℕ) (n : ℕ) : Type 0 where
  pub bytes : after ≡ over before 0 (flat_map line cs)
  pub size : n ≡ length (flat_map line cs)
  pub reads : read (take n after) ≡ Some cs

-- the calls of xs, with their answers in ys, over an empty writer to the area
pub record WroteRules (before : List ℕ) (xs ys : List Exchange) (after : List ℕ) (r : Written) : Type 0 where
  pub answers : List Answer
  pub told : ys ≡ answered (calls_of xs) answers
  pub state : State
  -- the writer at the making and in the end, and what is promised of a job over any sink
  pub start : Writer
  pub end : Writer
  pub new : NewWriter before start
  pub promise : Promise writer_model start (calls_of xs) answers end state
  -- the lines are the lists of the accepted calls, in order
  pub lines : LinesStand (written fresh (calls_of xs) answers) before after r.bytes
  pub count : r.clauses ≡ length (written fresh (calls_of xs) answers)
  pub variables : r.highest ≡ highest state
  -- some assignment satisfies the lines exactly when there is a run that obeys the accepted calls
  pub exact : state.begun ≡ true → ((α : Assignment) × (all_true α (read (take r.bytes after)) ≡ true)) ↔ Possible state

-- the clauses that a switch hands down
abbrev pub behind : ℕ → Clauses → Clauses
behind v cs = map (λ c. negated v ∷ c) cs

-- the same through two switches
pub record WrotePiled (first second : ℕ) (before : List ℕ) (xs ys : List Exchange) (after : List ℕ) (n : ℕ) : Type 0 where
  pub answers : List Answer
  pub told : ys ≡ answered (calls_of xs) answers
  pub state : State
  pub start : Writer
  pub end : Writer
  pub new : NewWriter before start
  pub promise : Promise (switch_model (switch_model writer_model)) (record { below = record { below = start; variable = first }; variable = second }) (calls_of xs) answers (record { below = record { below = end; variable = first }; variable = second }) state
  pub lines : LinesStand (behind first (behind second (written fresh (calls_of xs) answers))) before after n

-- the number of the first false clause of a list, or 0, where n clauses came before the list
abbrev pub first_false : Assignment → ℕ → Clauses → ℕ
first_false α n [] = 0
first_false α n (c ∷ cs) = cond (sat α c) (first_false α (n + 1) cs) (n + 1)

-- the calls of xs, with their answers in ys, over a judge by the area that has taken no clause; it tells r then
pub record JudgedRules (area : List ℕ) (xs ys : List Exchange) (r : ℕ) : Type 0 where
  pub answers : List Answer
  pub told : ys ≡ answered (calls_of xs) answers
  pub state : State
  pub start : Judge
  pub end : Judge
  pub new : NewJudge area start
  pub promise : Promise judge_model start (calls_of xs) answers end state
  pub first : r ≡ first_false (assigned area) 0 (written fresh (calls_of xs) answers)
  -- it tells 0 exactly when the area's assignment belongs to a run that obeys the accepted calls
  pub exact : state.begun ≡ true → (r ≡ 0) ↔ Shows state (assigned area)
