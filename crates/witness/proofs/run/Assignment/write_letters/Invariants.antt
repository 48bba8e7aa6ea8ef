use Rattle.std.proofs.Common.{◌≡◌, ℕ, ◌<◌}
use Rattle.sinks.specs.Models.{assigned}
use Rattle.mtl.specs.Layout.{rows_of}
use Rattle.evaluate.specs.Letters.{has}
use Rattle.witness.specs.Shown.{shown}
use Rattle.witness.proofs.run.Assignment.write_letters.Given as goal

abbrev pub invariant-loop-i : goal.invariant-loop-i
invariant-loop-i l = (j a : ℕ) → j < l.i → a < 32 → has l.letters j a ≡ shown l.self.bound (assigned l.self.bytes.now) (rows_of l.self.table.now) j a
