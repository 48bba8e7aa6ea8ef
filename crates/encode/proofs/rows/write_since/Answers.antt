use Rattle.std.proofs.Common.{refl, [], ◌∷◌}
use Rattle.encode.proofs.Receive.{fits_as}
use Rattle.encode.proofs.rows.write_since.Goals as goal

pub write_claim-requires : goal.write_claim-requires
write_claim-requires g c =
    fits_as g.R.Receiver.reception _ (rw (c.own.ensures, c.second.ensures) refl) (g.R.Receiver.reception.front _ (_ ∷ _ ∷ []) _ c.requires)

pub write_part-requires-clause-room : goal.write_part-requires-clause-room
write_part-requires-clause-room g c =
    g.R.Receiver.reception.back _ _ (_ ∷ _ ∷ []) _ c.requires (rw (c.own.ensures, c.second.ensures) at c.write_claim.ensures)

pub returns : goal.returns
returns g c =
    g.R.Receiver.reception.join _ _ _ (_ ∷ _ ∷ []) _ (rw (c.own.ensures, c.second.ensures) at c.write_claim.ensures) c.write_part.ensures
