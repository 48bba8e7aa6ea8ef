use Rattle.std.proofs.Common.{ℕ, ◌≤◌}
use Rattle.evaluate.specs.Bits.{At}
use Rattle.evaluate.specs.Lines.{line}
use Rattle.evaluate.proofs.lines.Lines.since.Given as goal

abbrev pub invariant-loop-j : goal.invariant-loop-j
invariant-loop-j l =
    (m : ℕ) → l.j ≤ m → m ≤ l.i
    → At l.sense (line l.self.lasso.bound l.self.bytes.now l.a) m × (At l.sense (line l.self.lasso.bound l.self.bytes.now l.b) m → ⊥)
