use Rattle.std.proofs.Common.{◌≡◌, ℕ, ◌-◌, ◌^◌, ◌<◌, ◌≤◌}
use Rattle.sinks.specs.Models.{assigned}
use Rattle.mtl.specs.Layout.{rows_of}
use Rattle.evaluate.specs.Letters.{holds}
use Rattle.witness.specs.Shown.{shown}
use Rattle.witness.proofs.run.Assignment.letter.Given as goal

abbrev pub invariant-loop-a : goal.invariant-loop-a
invariant-loop-a l =
    (l.letter < 2 ^ (32 - l.a))
    × ((b : ℕ) → l.a ≤ b → b < 32 → holds l.letter (b - l.a) ≡ shown l.self.bound (assigned l.self.bytes.now) (rows_of l.self.table.now) l.i b)
