use Rattle.std.proofs.Common.{◌≡◌, ◌+◌, ◌*◌, take}
use Rattle.sinks.specs.Lines.{over}
use Rattle.report.specs.Texts.{letter_lines}
use Rattle.report.proofs.telling.put_letters.Given as goal

abbrev pub invariant-loop-instant : goal.invariant-loop-instant
invariant-loop-instant l =
    (l.output ≡ over l.initial.output l.at (letter_lines 0 (take l.instant l.letters)))
    × (l.next ≡ l.at + 15 * l.instant)
