use Rattle.std.proofs.Common.{◌≡◌, ◌+◌, [], ◌∷◌, length, ap, ◌∙◌, arith, length-append}
use Rattle.bounded.specs.Items.{items}
use Rattle.sinks.specs.Lines.{over}
use Rattle.sinks.proofs.Over.{over_next}
use Rattle.frames.specs.Layouts.{run_layout}
use Rattle.frames.specs.Written.{written}
use Rattle.report.specs.Texts.{run_line, bound, letter_lines}
use Rattle.report.proofs.Lengths.{run_long, run_short}
use Rattle.report.proofs.telling.put_run.Goals as goal

pub returns : goal.returns
unfolding run_line
returns c =
    let s = c.args.output.now in
    let run = c.args.run.now in
    let k = bound run in
    let letters = items run.letters in
    let frame : c.as_slice.result.now ≡ written run_layout (record { bound = k; start = run.start }) = c.as_slice.ensures ∙ c.write-frame.ensures.value ∙ ap (λ b. written run_layout (record { bound = b; start = run.start })) c.bound.ensures in
    let put = c.put_bytes-feed.ensures in
    let first : c.put-next.new.area ≡ over s 0 (run_line k run.start) = over_next s _ _ 0 _ (written run_layout (record { bound = k; start = run.start })) (10 ∷ []) (omega arith) (put.area ∙ ap (over s 0) frame) (put.end ∙ ap (λ x. 0 + length x) frame) c.put-next.ensures.area in
    let at : c.put-next.result ≡ 0 + length (run_line k run.start) = omega (arith, put.end, ap length frame, c.put-next.ensures.end, run_long k run.start) in
    let rest = c.as_slice-2.ensures.value in
    let end = c.put_letters.ensures.end ∙ ap (λ xs. c.put-next.result + length (letter_lines 0 xs)) rest in
    let all = length-append (run_line k run.start) (letter_lines 0 letters) in
    record {
      area = over_next s _ _ 0 _ (run_line k run.start) (letter_lines 0 letters) (omega arith) first at (c.put_letters.ensures.area ∙ ap (λ xs. over c.put-next.new.area c.put-next.result (letter_lines 0 xs)) rest);
      end = omega (arith, at, end, all);
      fits = omega (arith, at, end, all, run_short run);
    }
