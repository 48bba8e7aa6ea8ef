-- The text of a report or a refusal.
use Rattle.std.specs.Prelude.{ℕ, suc, ◌-◌, List, [], ◌∷◌, ◌++◌, length, Ok, Err, codes, decimal, Result, unwrap_or}
use Rattle.bounded.specs.Items.{items}
use Rattle.sinks.specs.Lines.{pair_line}
use Rattle.frames.specs.Layouts.{run_layout, letter_layout}
use Rattle.frames.specs.Written.{written}
use Rattle.report.specs.declared.outcome.Report.{Report}
use Rattle.report.specs.declared.outcome.Report.TheVariants.{Unsatisfiable, Out, Shown}
use Rattle.report.specs.declared.outcome.ShownRun.{ShownRun}
use Rattle.report.specs.declared.refusal.Refusal.{Refusal}
use Rattle.report.specs.Refusals.{number, line}

-- REFUSED, the number and the line
abbrev pub notice_text : ℕ → ℕ → List ℕ
notice_text number line = pair_line (codes "REFUSED ") number line

-- the number and the line of a refusal, or 0 for no line
abbrev pub refusal_text : Refusal → List ℕ
refusal_text r = notice_text (number r) (unwrap_or (line r) 0)

-- NOT IN and the number of the clause
abbrev pub out_text : ℕ → List ℕ
out_text n = codes "NOT IN " ++ (decimal n ++ (10 ∷ []))

-- the frame of one letter, and those of the letters from instant i on
unfoldable pub letter_line : ℕ → ℕ → List ℕ
letter_line i x = written letter_layout (record { instant = i; signals = x }) ++ (10 ∷ [])

abbrev pub letter_lines : ℕ → List ℕ → List ℕ
letter_lines i [] = []
letter_lines i (x ∷ xs) = letter_line i x ++ letter_lines (suc i) xs

-- the frame of the bound and the loop start, then the frame of each letter
unfoldable pub run_line : ℕ → ℕ → List ℕ
run_line k l = written run_layout (record { bound = k; start = l }) ++ (10 ∷ [])

-- the last instant of a run
abbrev pub bound : ShownRun → ℕ
bound x = length (items x.letters) - 1

abbrev pub run_text : ShownRun → List ℕ
run_text x = run_line (bound x) x.start ++ letter_lines 0 (items x.letters)

abbrev pub report_text : Report → List ℕ
report_text Unsatisfiable = codes "NONE\n"
report_text (Out n) = out_text n
report_text (Shown x) = run_text x

abbrev pub text_of : Result Report Refusal → List ℕ
text_of (Ok r) = report_text r
text_of (Err e) = refusal_text e
