use Rattle.std.proofs.Common.{◌-◌, true, arith, rules, tests}
use Rattle.evaluate.specs.Bits.{At}
use Rattle.evaluate.specs.Lines.{line}
use Rattle.evaluate.proofs.Ranges.{any_in_range}
use Rattle.evaluate.proofs.lines.Lines.met_back.Goals as goal

pub returns : goal.returns
returns c =
    let s = c.args.self.now in
    any_in_range _ _ _ _ (At true (line s.lasso.bound s.bytes.now c.args.a)) c.any.ensures.ran
    (λ x q k. search (rules, tests))
    (λ x q k. search (rules, tests))
    (c.args.i - c.args.t) c.args.i (omega arith) (omega arith)
