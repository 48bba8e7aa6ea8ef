use Rattle.std.proofs.Common.{ℕ, ◌<◌, ◌≤◌}
use Rattle.evaluate.specs.Bits.{Round}
use Rattle.evaluate.specs.Lines.{line}
use Rattle.evaluate.proofs.lines.Lines.until.Given as goal

abbrev pub invariant-loop-j : goal.invariant-loop-j
invariant-loop-j l =
    (m : ℕ) → l.i ≤ m → m < l.j
    → Round l.self.lasso.bound l.self.lasso.start l.sense (line l.self.lasso.bound l.self.bytes.now l.a) m
    × (Round l.self.lasso.bound l.self.lasso.start l.sense (line l.self.lasso.bound l.self.bytes.now l.b) m → ⊥)
