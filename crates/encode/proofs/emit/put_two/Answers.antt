use Rattle.std.proofs.Common.{[], ◌∷◌}
use Rattle.encode.proofs.emit.put_two.Goals as goal

pub put_clause-requires-clause-room : goal.put_clause-requires-clause-room
put_clause-requires-clause-room g c = g.R.Receiver.reception.front _ (_ ∷ []) (_ ∷ []) c.requires.room

pub put_clause-requires-2-clause-room : goal.put_clause-requires-2-clause-room
put_clause-requires-2-clause-room g c =
    g.R.Receiver.reception.back _ _ (_ ∷ []) (_ ∷ []) c.requires.room c.put_clause.ensures

pub returns : goal.returns
returns g c = g.R.Receiver.reception.join _ _ _ (_ ∷ []) (_ ∷ []) c.put_clause.ensures c.put_clause-2.ensures
