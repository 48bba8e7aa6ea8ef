use Rattle.std.proofs.Common.{[], ◌∷◌}
use Rattle.mtl.specs.Shapes.{given}
use Rattle.mtl.specs.Lists.{around, seen}
use Rattle.encode.specs.Parts.{linked, lits_b, lits_e}
use Rattle.encode.proofs.rows.write_until.Goals as goal

pub write_around-requires : goal.write_around-requires
write_around-requires g c =
    let m = g.R.Receiver.reception in
    m.front _ (around c.args.p.k (linked c.args.p c.args.by)) (seen c.args.p.k (lits_e c.args.p) (λ i. given c.args.v (lits_b c.args.p i)))
    (m.front _ _ (_ ∷ []) c.requires)

pub write_seen-requires : goal.write_seen-requires
write_seen-requires g c =
    let m = g.R.Receiver.reception in
    m.back _ _ (around c.args.p.k (linked c.args.p c.args.by)) (seen c.args.p.k (lits_e c.args.p) (λ i. given c.args.v (lits_b c.args.p i)))
    (m.front _ _ (_ ∷ []) c.requires) c.write_around.ensures

pub put_clause-requires-clause-room : goal.put_clause-requires-clause-room
put_clause-requires-clause-room g c =
    let m = g.R.Receiver.reception in
    let two = m.join _ _ _ _ _ c.write_around.ensures c.write_seen.ensures in
    rw (c.opposite.ensures, c.given-last.ensures, c.own.ensures, c.extra.ensures) (m.back _ _ _ (_ ∷ []) c.requires two)

pub returns : goal.returns
returns g c =
    let m = g.R.Receiver.reception in
    let two = m.join _ _ _ _ _ c.write_around.ensures c.write_seen.ensures in
    m.join _ _ _ _ (_ ∷ []) two (rw (c.opposite.ensures, c.given-last.ensures, c.own.ensures, c.extra.ensures) at c.put_clause.ensures)
