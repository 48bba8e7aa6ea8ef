use Rattle.std.proofs.Common.{◌≡◌, [], ◌∷◌, length, None, Err, sym, ap, ◌∙◌, arith, length-append}
use Rattle.std.proofs.lemmas.Result.{err_from_is_err_and}
use Rattle.std.specs.Slice.Iter.{chunks_exact_rest, chunks_exact_size}
use Rattle.bounded.specs.Items.{items}
use Rattle.std.specs.Option.{ok_or}
use Rattle.frames.specs.declared.refusals.Refusal.TheVariants.{Digits}
use Rattle.frames.specs.Held.{held}
use Rattle.frames.specs.Hex.{bytes, front}
use Rattle.frames.specs.Lines.{mapped}
use Rattle.frames.proofs.Framing.{prepend, bytes_step, all-bytes, prepend_nil, prepend_front, framed_none, framed_open, framed-closed}
use Rattle.frames.proofs.decoding.decode.Goals as goal

pub loop-pair-init : goal.loop-pair-init
loop-pair-init c =
    let line = c.args.line.now in
    let made = c.into_iter-pair-iterator.ensures.into_iter_gives in
    let two : chunks_exact_size c.into_iter-pair-iterator.result ≡ 2 = ap chunks_exact_size made ∙ c.chunks_exact-pair-items.ensures.size in
    let rest : chunks_exact_rest c.into_iter-pair-iterator.result ≡ line = ap chunks_exact_rest made ∙ c.chunks_exact-pair-items.ensures.rest in
    record {
      can = omega (arith, two);
      ends = tt;
      two = two;
      half = omega (arith, ap length rest, ap length c.new-bytes.ensures);
      read = sym (prepend_nil (bytes line)) ∙ ap (λ cs. prepend [] (bytes cs)) (sym rest) ∙ ap (λ xs. prepend xs (bytes (chunks_exact_rest c.into_iter-pair-iterator.result))) (sym c.new-bytes.ensures);
    }

pub returns-in_err-b : goal.returns-in_err-b
returns-in_err-b c =
    let p = err_from_is_err_and c.from_residual.result c.from_residual.ensures.1 in
    let i = c.loop-pair.invariant in
    let s = c.in-Some.ensures.steps in
    let xs = items c.loop-pair.bytes in
    let rest = bytes (chunks_exact_rest c.next.new.self) in
    let step = bytes_step _ c.in-Some.pair.now _ s.1.0 (s.1.1 ∙ i.two) in
    let none : bytes c.args.line.now ≡ None = i.read ∙ ap (prepend xs) (step ∙ ap (λ o. front o rest) (sym c.byte_of.ensures ∙ c.in_err-b.ensures.ok_part)) in
    let refusal = c.in_err-b.ensures.value ∙ ap (λ o. ok_or o Digits) c.in_err-b.ensures.ok_part in
    let digits : c.in_err-b.field-0.0 ≡ Digits = cc in
    ap (mapped held) p.1 ∙ ap Err (p.2 ∙ digits) ∙ framed_none c.args.line.now (sym c.if-not-is_frame_length.ensures) none

pub loop-pair-preserved : goal.loop-pair-preserved
loop-pair-preserved c =
    let i = c.loop-pair.invariant in
    let s = c.in-Some.ensures.steps in
    let xs = items c.loop-pair.bytes in
    let rest = bytes (chunks_exact_rest c.next.new.self) in
    let step = bytes_step _ c.in-Some.pair.now _ s.1.0 (s.1.1 ∙ i.two) in
    let some = sym c.byte_of.ensures ∙ c.in_ok-b.ensures.ok_part in
    let two : chunks_exact_size c.next.new.self ≡ 2 = s.0 ∙ i.two in
    record {
      can = omega (arith, two);
      ends = tt;
      two = two;
      half = omega (arith, i.half, ap length c.push.ensures, length-append xs (c.in_ok-b.b ∷ []), ap length s.1.0, length-append c.in-Some.pair.now (chunks_exact_rest c.next.new.self), s.1.1, i.two);
      read = i.read ∙ ap (prepend xs) (step ∙ ap (λ o. front o rest) some) ∙ prepend_front xs c.in_ok-b.b rest ∙ ap (λ l. prepend l rest) (sym c.push.ensures);
    }

pub returns-then-is_closed : goal.returns-then-is_closed
returns-then-is_closed c =
    let long = sym c.if-not-is_frame_length.ensures in
    let i = c.loop-pair.invariant in
    framed-closed c.args.line.now _ long (all-bytes c.args.line.now _ _ long i.half (omega (arith, c.in-None.ensures.steps.1.0, i.two)) i.read) (sym c.if-is_closed.ensures)

pub returns-else-is_closed : goal.returns-else-is_closed
returns-else-is_closed c =
    let long = sym c.if-not-is_frame_length.ensures in
    let i = c.loop-pair.invariant in
    framed_open c.args.line.now _ long (all-bytes c.args.line.now _ _ long i.half (omega (arith, c.in-None.ensures.steps.1.0, i.two)) i.read) (sym c.if-is_closed.ensures)
