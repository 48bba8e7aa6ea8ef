use Rattle.std.proofs.Common.{◌≡◌, ◌+◌, ◌<◌, length, get_or, drop, ◌∙◌, arith}
use Rattle.std.proofs.lemmas.List.{at_drop_more}
use Rattle.answers.specs.Words.{tens}
use Rattle.answers.specs.Cap.{capped}
use Rattle.answers.proofs.Capping.{tens-digit}
use Rattle.answers.proofs.numbers.read_digits.Goals as goal

pub loop-c-preserved : goal.loop-c-preserved
loop-c-preserved c =
    let t = c.args.digits.now in
    let i = c.loop-c.c-index in
    let n = c.loop-c.n in
    let d = c.in_ok-to_digit.field-0 in
    let h : i < length t = omega arith in
    let l : d < 10 = omega (arith, c.in_ok-to_digit.ensures.value) in
    let e : 48 + d ≡ get_or t i 0 = omega (arith, c.in_ok-to_digit.ensures.cases) in
    (omega arith, c.loop-c.invariant.1 ∙ at_drop_more (λ l. capped (tens l n)) t i 0 h ∙ tens-digit (get_or t i 0) (drop (i + 1) t) n d c.min-n.result e l c.min-n.ensures)
