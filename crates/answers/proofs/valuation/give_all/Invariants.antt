use Rattle.std.proofs.Common.{◌≡◌, List, length, Some}
use Rattle.cnf.specs.declared.clause.Literal.{Literal}
use Rattle.text.specs.Split.{lines, kept}
use Rattle.answers.specs.Reading.{join, close, literals}
use Rattle.answers.specs.Left.{numbers_left, count_left}
use Rattle.answers.specs.Held.{Holds}
use Rattle.answers.proofs.valuation.give_all.Given as goal

abbrev pub invariant-loop-literal : goal.invariant-loop-literal
invariant-loop-literal l =
    (length l.values ≡ length l.fn.values) × (ms : List Literal) × Holds l.values l.sound ms
    × (literals (kept (lines l.text)) ≡ join (Some ms) (close (numbers_left l.literals)))

abbrev pub decreases-loop-literal : goal.decreases-loop-literal
decreases-loop-literal l = count_left l.literals
