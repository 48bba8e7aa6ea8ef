use Rattle.std.proofs.Common.{take, sym, ap, ◌∙◌, arith, take_all}
use Rattle.std.proofs.lemmas.List.{length-take-le}
use Rattle.sinks.specs.Lines.{over}
use Rattle.sinks.proofs.Over.{over_none, over_next}
use Rattle.report.specs.Texts.{letter_lines}
use Rattle.report.proofs.Lengths.{lines_long, lines_more}
use Rattle.report.proofs.telling.put_letters.Goals as goal

pub loop-instant-init : goal.loop-instant-init
loop-instant-init c = (sym (over_none c.args.output.now c.args.at), omega arith)

pub loop-instant-preserved : goal.loop-instant-preserved
loop-instant-preserved c =
    let xs = c.args.letters.now in
    let i = c.loop-instant.instant in
    let put = c.put_letter-next.ensures in (
      over_next c.args.output.now _ _ c.args.at c.loop-instant.next (letter_lines 0 (take i xs)) _ (omega arith) c.loop-instant.invariant.0 (omega (arith, c.loop-instant.invariant.1, lines_long 0 (take i xs), length-take-le i xs (omega arith))) put.area
          ∙ ap (over c.args.output.now c.args.at) (sym (lines_more xs i c.loop-instant-test.true)),
      omega (arith, c.loop-instant.invariant.1, put.end),
    )

pub returns : goal.returns
returns c =
    let xs = c.args.letters.now in
    let all = take_all c.loop-instant.instant xs c.loop-instant-test.false in
    record {
      area = c.loop-instant.invariant.0 ∙ ap (λ ys. over c.args.output.now c.args.at (letter_lines 0 ys)) all;
      end = omega (arith, c.loop-instant.invariant.1, lines_long 0 xs, c.loop-instant-test.false);
    }
