use Rattle.std.proofs.Common.{◌/◌, length, sym, ap, ◌∙◌, arith}
use Rattle.std.proofs.lemmas.Fmt.{decimal_digit, length-decimal-le_succ}
use Rattle.sinks.proofs.Over.{decimal_longer}
use Rattle.sinks.proofs.line.+digit_count.Goals as goal

pub overflow_add-result : goal.overflow_add-result
overflow_add-result t c =
    let n = c.args.number in
    omega (arith, c.digit_count.ensures, length-decimal-le_succ (n / 10) (omega arith))

pub returns-then-number-lt10 : goal.returns-then-number-lt10
returns-then-number-lt10 t c = sym (ap length (decimal_digit c.args.number c.if-number-lt10.true))

pub returns-else-number-lt10 : goal.returns-else-number-lt10
returns-else-number-lt10 t c =
    omega (arith, c.digit_count.ensures, decimal_longer c.args.number c.if-number-lt10.false (omega arith))
