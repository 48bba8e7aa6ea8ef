use Rattle.std.proofs.Common.{ℕ, ◌<◌, Decides}
use Rattle.evaluate.specs.Bits.{bit}
use Rattle.evaluate.specs.Lines.{line, Meant}
use Rattle.evaluate.specs.Truths.{row_at}
use Rattle.evaluate.proofs.rows.write_row.Given as goal

abbrev pub invariant-loop-i : goal.invariant-loop-i
invariant-loop-i l =
    (j : ℕ) → j < l.i
    → Decides (bit l.line j) (Meant l.run.lasso.bound l.run.lasso.start l.run.letters.now (line l.run.lasso.bound l.lines.0.now) (row_at l.rows l.n) j)
