use Rattle.std.proofs.Common.{◌+◌, [], ◌∷◌, length, ap, ◌∙◌, arith}
use Rattle.sinks.specs.Lines.{over}
use Rattle.sinks.proofs.Over.{over_next}
use Rattle.frames.specs.Layouts.{letter_layout}
use Rattle.frames.specs.Written.{written}
use Rattle.report.specs.Texts.{letter_line}
use Rattle.report.proofs.telling.put_letter.Goals as goal

pub returns : goal.returns
unfolding letter_line
returns c =
    let s = c.args.output.now in
    let frame = c.as_slice.ensures ∙ c.write-frame.ensures.value in
    let put = c.put_bytes-feed.ensures in
    record {
      area = over_next s _ _ c.args.at _ (written letter_layout (record { instant = c.args.instant; signals = c.args.signals })) (10 ∷ []) (omega arith) (put.area ∙ ap (over s c.args.at) frame) (put.end ∙ ap (λ x. c.args.at + length x) frame) c.put.ensures.area;
      end = omega (arith, put.end, ap length frame);
    }
