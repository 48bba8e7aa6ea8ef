-- The numbers of the refusals, and what is told of a refused script.
use Rattle.std.specs.Prelude.{ℕ, List, ◌∷◌, ◌++◌, codes, decimal}
use Rattle.frames.specs.Numbers.{number as line_number}
use Rattle.job.specs.Refusals.{number as call_number}
use Rattle.script.specs.declared.refusal.Refusal.{Refusal}
use Rattle.script.specs.declared.refusal.Refusal.TheVariants.{Line, Call}
use Rattle.script.specs.declared.refusal.Stop.{Stop}

-- 1 to 4 for a line that is no frame of a script; 10 to 14, 20 to 26 and 30 to 33 for a call that the job refuses
abbrev pub number : Refusal → ℕ
number (Line e) = line_number e
number (Call e) = call_number e

-- what is told of a refused script: the number and the line
abbrev pub notice : Stop → List ℕ
notice s = codes "REFUSED " ++ (decimal (number s.refusal) ++ (32 ∷ decimal s.line))
