use Rattle.std.proofs.Common.{[], ◌∷◌, codes, decimal, arith}
use Rattle.sinks.proofs.Over.{over_next, numeral_area, numeral_end}
use Rattle.report.proofs.Lengths.{out_long, out_short}
use Rattle.report.proofs.telling.put_out.Goals as goal

pub put_number-feed-requires : goal.put_number-feed-requires
put_number-feed-requires c = omega (arith, out_long c.args.clause, out_short c.args.clause (omega arith))

pub put-requires : goal.put-requires
put-requires c =
    let long = out_long c.args.clause in
    let short = out_short c.args.clause (omega arith) in
    omega (arith, long, short, numeral_end (omega arith) c.put_number-feed.ensures)

pub returns : goal.returns
returns c =
    let long = out_long c.args.clause in
    let short = out_short c.args.clause (omega arith) in
    let word = c.put_bytes-number.ensures in
    let number = c.put_number-feed.ensures in
    let end = numeral_end (omega arith) number in
    record {
      area = over_next c.args.output.now _ _ 0 _ (codes "NOT IN ") _ (omega arith) word.area word.end
          (over_next _ _ _ _ _ (decimal c.args.clause) (10 ∷ []) (omega arith) (numeral_area (omega arith) number) end c.put.ensures.area);
      end = omega arith;
      fits = omega arith;
    }
