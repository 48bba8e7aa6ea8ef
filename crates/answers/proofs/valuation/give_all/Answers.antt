use Rattle.std.proofs.Common.{◌<◌, ◌≤◌, length, Ok, ap, ◌∙◌, arith, length-set}
use Rattle.text.specs.Split.{lines, kept}
use Rattle.answers.specs.Reading.{close, literals}
use Rattle.answers.specs.Left.{numbers_left}
use Rattle.answers.proofs.Held.{turn}
use Rattle.answers.proofs.valuation.give_all.Goals as goal

pub loop-literal-preserved : goal.loop-literal-preserved
loop-literal-preserved c =
    let l = c.loop-literal in
    let i = l.invariant in
    let n = c.in-Some.literal in
    let takes = rw c.in-Some.is at c.in_ok-literal.ensures.takes in
    let some : 0 < n.variable = c.in_ok-literal.ensures.some n (ap Ok c.in-Some.is) in
    let low : length l.values ≤ 2112 = omega arith in
    let t = turn l.values c.give.new.values l.sound c.and-sound.result c.give.result i.1 n (literals (kept (lines c.args.text.now))) (close (numbers_left l.literals)) (close (numbers_left c.next_literal.new.self)) i.2 i.3 takes some low c.give.ensures.answer c.give.ensures.given c.and-sound.ensures in
    (ap length c.give.ensures.given ∙ length-set _ _ _ ∙ i.0, t.0, t.1, t.2)
