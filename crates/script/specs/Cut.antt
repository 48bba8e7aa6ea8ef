-- What stands behind the first 1,471 bytes of a text does not change what comes of it as a script.
use Rattle.std.specs.Prelude.{ℕ, ◌↔◌, List, take, Result}
use Rattle.cnf.specs.Sinks.{Model}
use Rattle.job.specs.Calls.{State}
use Rattle.script.specs.declared.refusal.Stop.{Stop}
use Rattle.script.specs.Scripts.{DroveScript}
use Rattle.script.specs.Files.{Filed}

-- More than a job can accept, and a line behind it that is too long: at most 97 calls are accepted (a begin, 32 rows, 64 requirements),
-- each on a line of at most 14 characters and a line feed, and a line of more than 14 characters is refused whatever follows.
abbrev pub enough : ℕ
enough = 1471

-- of a script on a new job over any sink of a kind
abbrev pub ScriptCut : {S : Type 0} → Model S → Type 0
ScriptCut {S} m = (k : S) (text : List ℕ) (r : Result (Unit {0}) Stop) (k' : S) (s : State) → DroveScript m k (take enough text) r k' s ↔ DroveScript m k text r k' s

-- of the file of a script
abbrev pub FileCut : Type 0
FileCut = (work text before after : List ℕ) (r : Result ℕ Stop) → Filed work (take enough text) before after r ↔ Filed work text before after r
