-- The numbers and the lines of the refusals, and what is told of one.
use Rattle.std.specs.Prelude.{ℕ, List, ◌∷◌, ◌++◌, Some, None, Option, codes, decimal, unwrap_or}
use Rattle.script.specs.Refusals.{number as script_number}
use Rattle.answers.specs.Refusals.{number as answer_number}
use Rattle.witness.specs.Refusals.{number as run_number}
use Rattle.report.specs.declared.refusal.Refusal.{Refusal}
use Rattle.report.specs.declared.refusal.Refusal.TheVariants.{Script, Answer, Run}

-- 1 to 33 for the script, 43 to 48 for the solver's answer, 20 and 50 to 55 for the run
abbrev pub number : Refusal → ℕ
number (Script s) = script_number s.refusal
number (Answer e) = answer_number e
number (Run e) = run_number e

-- the script's refused line
abbrev pub line : Refusal → Option ℕ
line (Script s) = Some s.line
line (Answer e) = None
line (Run e) = None

-- what is told of a refusal: the number and the line, or 0 for no line
abbrev pub notice : Refusal → List ℕ
notice r = codes "REFUSED " ++ (decimal (number r) ++ (32 ∷ decimal (unwrap_or (line r) 0)))
