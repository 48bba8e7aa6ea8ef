use Rattle.std.proofs.Common.{[], ◌∷◌, decimal, arith}
use Rattle.sinks.proofs.Over.{over_next, pair_long, numeral_area, numeral_end}
use Rattle.sinks.proofs.line.put_pair.Goals as goal

pub put_number-blank-requires : goal.put_number-blank-requires
put_number-blank-requires c = omega (arith, pair_long c.args.word.now c.args.first c.args.second)

pub put-next-requires : goal.put-next-requires
put-next-requires c = omega (arith, pair_long c.args.word.now c.args.first c.args.second, numeral_end (omega arith) c.put_number-blank.ensures)

pub put_number-feed-requires : goal.put_number-feed-requires
put_number-feed-requires c = omega (arith, pair_long c.args.word.now c.args.first c.args.second, numeral_end (omega arith) c.put_number-blank.ensures)

pub put-requires : goal.put-requires
put-requires c =
    omega (arith, pair_long c.args.word.now c.args.first c.args.second, numeral_end (omega arith) c.put_number-blank.ensures, numeral_end (omega arith) c.put_number-feed.ensures)

pub returns : goal.returns
returns c =
    let long = pair_long c.args.word.now c.args.first c.args.second in
    let start = c.put_bytes-number.ensures in
    let variables = c.put_number-blank.ensures in
    let blank = c.put-next.ensures in
    let clauses = c.put_number-feed.ensures in
    let first = numeral_end (omega arith) variables in
    let second = numeral_end (omega arith) clauses in
    record {
      area = over_next c.args.area.now _ _ 0 _ c.args.word.now _ (omega arith) start.area start.end
          (over_next _ _ _ _ _ (decimal c.args.first) _ (omega arith) (numeral_area (omega arith) variables) first
          (over_next _ _ _ _ _ (32 ∷ []) _ (omega arith) blank.area blank.end
          (over_next _ _ _ _ _ (decimal c.args.second) (10 ∷ []) (omega arith) (numeral_area (omega arith) clauses) second c.put.ensures.area)));
      end = omega arith;
    }

pub put_bytes-number-requires : goal.put_bytes-number-requires
put_bytes-number-requires c = omega (arith, pair_long c.args.word.now c.args.first c.args.second)
