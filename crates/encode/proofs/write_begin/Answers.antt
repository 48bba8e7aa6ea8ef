use Rattle.std.proofs.Common.{refl, [], ◌∷◌}
use Rattle.encode.proofs.Receive.{fits_as}
use Rattle.encode.proofs.write_begin.Goals as goal

pub write_starts-requires-clause-room : goal.write_starts-requires-clause-room
write_starts-requires-clause-room g c =
    let m = g.R.Receiver.reception in
    m.front _ (_ ∷ []) _ (m.front _ _ (_ ∷ _ ∷ []) (m.front _ _ _ c.requires.room))

pub write_part-requires-clause-room : goal.write_part-requires-clause-room
write_part-requires-clause-room g c =
    let m = g.R.Receiver.reception in
    m.back _ _ (_ ∷ []) _ (m.front _ _ (_ ∷ _ ∷ []) (m.front _ _ _ c.requires.room)) c.write_starts.ensures

pub write_claim-requires : goal.write_claim-requires
write_claim-requires g c =
    let m = g.R.Receiver.reception in
    let two = m.join _ _ _ (_ ∷ []) _ c.write_starts.ensures c.write_part.ensures in
    fits_as g.R.Receiver.reception _ (rw (c.inside_at.ensures, c.starts_at.ensures) refl) (m.back _ _ _ (_ ∷ _ ∷ []) (m.front _ _ _ c.requires.room) two)

pub write_part-requires-2-clause-room : goal.write_part-requires-2-clause-room
write_part-requires-2-clause-room g c =
    let m = g.R.Receiver.reception in
    let two = m.join _ _ _ (_ ∷ []) _ c.write_starts.ensures c.write_part.ensures in
    let three = m.join _ _ _ _ (_ ∷ _ ∷ []) two (rw (c.inside_at.ensures, c.starts_at.ensures) at c.write_claim.ensures) in
    m.back _ _ _ _ c.requires.room three

pub returns : goal.returns
returns g c =
    let m = g.R.Receiver.reception in
    let two = m.join _ _ _ (_ ∷ []) _ c.write_starts.ensures c.write_part.ensures in
    let three = m.join _ _ _ _ (_ ∷ _ ∷ []) two (rw (c.inside_at.ensures, c.starts_at.ensures) at c.write_claim.ensures) in
    m.join _ _ _ _ _ three c.write_part-2.ensures
