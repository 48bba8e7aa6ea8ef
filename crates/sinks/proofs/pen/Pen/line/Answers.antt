use Rattle.std.proofs.Common.{[], ◌∷◌}
use Rattle.std.specs.List.{flat_map}
use Rattle.sinks.specs.Lines.{literal_text}
use Rattle.sinks.proofs.Pens.{room_first, room_next, wrote_next}
use Rattle.sinks.proofs.pen.Pen.line.Goals as goal

pub literals-requires : goal.literals-requires
literals-requires c = room_first (flat_map literal_text c.args.clause.now) (48 ∷ (10 ∷ [])) c.args.self.now c.requires

pub byte-requires : goal.byte-requires
byte-requires c =
    room_first (48 ∷ []) (10 ∷ []) c.literals.new.self (room_next (flat_map literal_text c.args.clause.now) (48 ∷ (10 ∷ [])) c.args.self.now c.requires c.literals.new.self c.literals.ensures)

pub byte-requires-2 : goal.byte-requires-2
byte-requires-2 c =
    room_next (48 ∷ []) (10 ∷ []) c.literals.new.self (room_next (flat_map literal_text c.args.clause.now) (48 ∷ (10 ∷ [])) c.args.self.now c.requires c.literals.new.self c.literals.ensures) c.byte.new.self c.byte.ensures

pub returns : goal.returns
returns c =
    let text = flat_map literal_text c.args.clause.now in
    let room = room_next text (48 ∷ (10 ∷ [])) c.args.self.now c.requires c.literals.new.self c.literals.ensures in
    wrote_next text (48 ∷ (10 ∷ [])) c.args.self.now c.requires _ c.byte-2.new.self c.literals.ensures (wrote_next (48 ∷ []) (10 ∷ []) c.literals.new.self room c.byte.new.self _ c.byte.ensures c.byte-2.ensures)
