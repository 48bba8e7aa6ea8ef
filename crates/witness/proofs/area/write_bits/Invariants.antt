use Rattle.std.proofs.Common.{◌≡◌, ℕ, ◌<◌, Bool, get_or}
use Rattle.std.specs.Int.{from_bool}
use Rattle.witness.proofs.area.write_bits.Given as goal

abbrev pub invariant-loop-i : goal.invariant-loop-i
invariant-loop-i g l = (j : ℕ) → j < l.i → (v : Bool) × goal.F-post g l.truth j v × (get_or l.bytes j 0 ≡ from_bool v)
