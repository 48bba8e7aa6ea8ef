use Rattle.std.proofs.Common.{◌≡◌, ℕ, ◌*◌, ◌<◌, ◌≤◌}
use Rattle.mtl.specs.Sizes.{total}
use Rattle.mtl.proofs.cells.total.Given as goal

abbrev pub invariant-loop-i : goal.invariant-loop-i
invariant-loop-i g l = record {
  value : (h : ℕ → ℕ) → ((i y : ℕ) → i < 256 → goal.F-post g l.f i y → y ≡ h i) → l.sum ≡ total 0 l.i h;
  small : (m : ℕ) → ((i y : ℕ) → i < 256 → goal.F-post g l.f i y → y ≤ m) → l.sum ≤ l.i * m;
  fits : l.sum ≤ l.i * 65535;
}
