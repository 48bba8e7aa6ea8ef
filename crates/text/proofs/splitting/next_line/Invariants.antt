use Rattle.std.proofs.Common.{◌≡◌, ◌≤◌, length}
use Rattle.text.specs.Split.{lines, kept}
use Rattle.text.proofs.splitting.next_line.Given as goal

abbrev pub invariant-loop-line : goal.invariant-loop-line
invariant-loop-line l = (length l.left ≤ length l.initial.left) × (kept (lines l.initial.left) ≡ kept (lines l.left))

abbrev pub decreases-loop-line : goal.decreases-loop-line
decreases-loop-line l = length l.left
