use Rattle.std.proofs.Common.{◌+◌, true, refl, arith, rules, tests}
use Rattle.evaluate.specs.Bits.{Round}
use Rattle.evaluate.specs.Lines.{line}
use Rattle.evaluate.proofs.Ranges.{all_in_range}
use Rattle.evaluate.proofs.lines.Lines.kept_ahead.Goals as goal

pub returns : goal.returns
returns c =
    let s = c.args.self.now in
    all_in_range _ _ _ _ (Round s.lasso.bound s.lasso.start true (line s.lasso.bound s.bytes.now c.args.a)) c.all.ensures.ran
    (λ x q k. search (rules, tests))
    (λ x q k. search (rules, tests))
    c.args.i (c.args.i + c.args.t) refl (omega arith)
