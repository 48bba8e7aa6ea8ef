use Rattle.std.proofs.Common.{◌-◌, ◌<◌, eqb, ap, ◌∙◌, arith}
use Rattle.sinks.specs.Models.{assigned}
use Rattle.mtl.specs.Layout.{rows_of}
use Rattle.evaluate.proofs.Cells.{bit_of, bit_small}
use Rattle.witness.specs.Shown.{shown}
use Rattle.witness.proofs.Digits.{digit_more}
use Rattle.witness.proofs.run.Assignment.letter.Goals as goal

pub loop-a-preserved : goal.loop-a-preserved
loop-a-preserved c =
    let s = c.args.self.now in
    let small : c.from.result < 2 = omega (arith, c.from.ensures, bit_small c.shows.result) in
    digit_more c.loop-a.letter c.from.result (λ b. shown s.bound (assigned s.bytes.now) (rows_of s.table.now) c.args.i b) small
    (c.loop-a.a - 1) c.loop-a.a (omega arith) (omega arith) (ap (λ x. eqb x 1) c.from.ensures ∙ bit_of c.shows.result ∙ c.shows.ensures) c.loop-a.invariant.0 c.loop-a.invariant.1
