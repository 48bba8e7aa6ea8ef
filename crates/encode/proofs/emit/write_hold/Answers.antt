use Rattle.std.proofs.Common.{[], ◌∷◌}
use Rattle.encode.proofs.emit.write_hold.Goals as goal

pub put_two-requires-clause-room : goal.put_two-requires-clause-room
put_two-requires-clause-room g c =
    rw c.opposite.ensures (g.R.Receiver.reception.front _ (_ ∷ _ ∷ []) (_ ∷ _ ∷ []) c.requires)

pub put_two-requires-2-clause-room : goal.put_two-requires-2-clause-room
put_two-requires-2-clause-room g c =
    let one = rw c.opposite.ensures at c.put_two.ensures in
    rw (c.opposite-c.ensures, c.opposite-2.ensures, c.opposite-3.ensures)
    (g.R.Receiver.reception.back _ _ (_ ∷ _ ∷ []) (_ ∷ _ ∷ []) c.requires one)

pub returns : goal.returns
returns g c =
    let one = rw c.opposite.ensures at c.put_two.ensures in
    let two = rw (c.opposite-c.ensures, c.opposite-2.ensures, c.opposite-3.ensures) at c.put_two-2.ensures in
    g.R.Receiver.reception.join _ _ _ (_ ∷ _ ∷ []) (_ ∷ _ ∷ []) one two
