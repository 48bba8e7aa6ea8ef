-- The file of a script.
use Rattle.std.specs.Prelude.{◌≡◌, ℕ, true, ◌↔◌, List, ◌++◌, length, take, drop, Some, Ok, Err, codes, Result}
use Rattle.std.specs.List.{flat_map}
use Rattle.cnf.specs.Clauses.{Assignment, Clauses, sat_all}
use Rattle.sinks.specs.declared.writer.Writer.{Writer}
use Rattle.sinks.specs.Lines.{line, pair_line, over, read}
use Rattle.sinks.specs.Models.{writer_model, NewWriter}
use Rattle.job.specs.Calls.{State, highest}
use Rattle.job.specs.Runs.{Possible}
use Rattle.script.specs.declared.refusal.Stop.{Stop}
use Rattle.script.specs.Scripts.{clauses, DroveScript}

-- the first line: the highest variable and the number of clauses
abbrev pub heading : ℕ → ℕ → List ℕ
heading v n = pair_line (codes "p cnf ") v n

-- the file of some clauses of a job with the highest variable v
abbrev pub file : ℕ → Clauses → List ℕ
file v cs = heading v (length cs) ++ flat_map line cs

-- the file stands at the front, n bytes in all, and every byte behind it is as it was; read back, its lines are the clauses
pub record FileStands (v : ℕ) (cs : Clauses) (before after : List ℕ) (n : ℕ) : Type 0 where
  pub bytes : after ≡ over before 0 (file v cs)
  pub size : n ≡ length (file v cs)
  pub reads : read (drop (length (heading v (length cs))) (take n after)) ≡ Some cs

-- what came of a script that ended so, with these clauses of a job with the highest variable v
abbrev pub Made : Result (Unit {0}) Stop → ℕ → Clauses → List ℕ → List ℕ → Result ℕ Stop → Type 0
Made (Err stop) v cs before after r = (r ≡ Err stop) × (after ≡ before)
Made (Ok _) v cs before after r = (n : ℕ) × (r ≡ Ok n) × FileStands v cs before after n

-- the text as a script, run on a new job over an empty writer to the work area, and its file in the output
pub record Filed (work text before after : List ℕ) (r : Result ℕ Stop) : Type 0 where
  pub result : Result (Unit {0}) Stop
  pub state : State
  -- the writer at the making and in the end, and what is promised of a script over any sink
  pub start : Writer
  pub end : Writer
  pub new : NewWriter work start
  pub drove : DroveScript writer_model start text result end state
  pub made : Made result (highest state) (clauses drove.script) before after r
  -- some assignment satisfies the clauses exactly when there is a run that obeys the accepted calls
  pub exact : state.begun ≡ true → ((α : Assignment) × (sat_all α (clauses drove.script) ≡ true)) ↔ Possible state
