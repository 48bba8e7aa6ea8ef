use Rattle.std.proofs.Common.{◌≡◌, ◌+◌, ◌*◌, ◌<◌, [], ◌∷◌, ◌++◌, length, ap, ◌∙◌, append_assoc, arith, length-append}
use Rattle.bounded.specs.Items.{items}
use Rattle.frames.proofs.Spelling.{spelled_push}
use Rattle.frames.proofs.encoding.encode.Goals as goal

pub loop-b-preserved : goal.loop-b-preserved
loop-b-preserved c =
    let two : items c.push-in-loop-b.new.self ≡ items c.loop-b.characters ++ c.digit_of.result ∷ c.digit_of-in-loop-b.result ∷ [] =
    c.push-in-loop-b.ensures ∙ ap (λ xs. xs ++ c.digit_of-in-loop-b.result ∷ []) c.push.ensures ∙ append_assoc (items c.loop-b.characters) _ _ in
    let long : length (items c.push-in-loop-b.new.self) ≡ 2 * (c.loop-b.b-index + 1) = omega (arith, ap length two, length-append (items c.loop-b.characters) (c.digit_of.result ∷ c.digit_of-in-loop-b.result ∷ []), c.loop-b.invariant.long) in
    let inside : c.loop-b.b-index < length c.as_slice-b-items.result.now = omega arith in
    let more = spelled_push c.as_slice-b-items.result.now c.loop-b.b-index inside in
    record {
      few = c.loop-b.invariant.few;
      long = long;
      spelt = cc;
    }
