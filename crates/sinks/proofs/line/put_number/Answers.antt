use Rattle.std.proofs.Common.{◌+◌, length, decimal, ap, arith}
use Rattle.sinks.proofs.Over.{wrote_numeral, over_split}
use Rattle.sinks.proofs.line.put_number.Goals as goal

pub returns : goal.returns
returns c =
    let count = ap (λ m. c.args.at + m) c.digit_count.ensures in
    let wrote = c.write_digits.ensures in
    wrote_numeral _ _ _ _ _ (omega arith)
    (over_split c.args.area.now _ (decimal c.args.number) c.args.at _ _ (omega (arith, wrote.start, count)) count wrote.written wrote.before)
    count
