use Rattle.std.proofs.Common.{[], ◌∷◌, ◌++◌, decimal}
use Rattle.sinks.specs.Lines.{sign}
use Rattle.sinks.proofs.Pens.{room_first, room_next, wrote_next}
use Rattle.sinks.proofs.pen.Pen.literal.Goals as goal

pub sign-requires : goal.sign-requires
sign-requires c = room_first (sign c.args.literal.positive) (decimal c.args.literal.variable ++ (32 ∷ [])) c.args.self.now c.requires

pub number-requires : goal.number-requires
number-requires c =
    let l = c.args.literal in
    room_first (decimal l.variable) (32 ∷ []) c.sign.new.self (room_next (sign l.positive) (decimal l.variable ++ (32 ∷ [])) c.args.self.now c.requires c.sign.new.self c.sign.ensures)

pub byte-requires : goal.byte-requires
byte-requires c =
    let l = c.args.literal in
    room_next (decimal l.variable) (32 ∷ []) c.sign.new.self (room_next (sign l.positive) (decimal l.variable ++ (32 ∷ [])) c.args.self.now c.requires c.sign.new.self c.sign.ensures) c.number.new.self c.number.ensures

pub returns : goal.returns
returns c =
    let l = c.args.literal in
    let room = room_next (sign l.positive) (decimal l.variable ++ (32 ∷ [])) c.args.self.now c.requires c.sign.new.self c.sign.ensures in
    wrote_next (sign l.positive) _ c.args.self.now c.requires _ c.byte.new.self c.sign.ensures (wrote_next (decimal l.variable) (32 ∷ []) c.sign.new.self room c.number.new.self _ c.number.ensures c.byte.ensures)
