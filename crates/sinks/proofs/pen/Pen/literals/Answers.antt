use Rattle.std.proofs.Common.{List, ℕ, take, get_or, sym, subst, take_all}
use Rattle.std.specs.List.{flat_map}
use Rattle.cnf.specs.Clauses.{Clause, negated}
use Rattle.sinks.specs.Lines.{literal_text}
use Rattle.sinks.specs.Pens.{Wrote}
use Rattle.sinks.proofs.Over.{texts_more}
use Rattle.sinks.proofs.Pens.{wrote_none, room_until, room_next, wrote_next}
use Rattle.sinks.proofs.pen.Pen.literals.Goals as goal

pub loop-literal-init : goal.loop-literal-init
loop-literal-init c = wrote_none c.args.self.now

pub literal-requires : goal.literal-requires
literal-requires c =
    let xs = c.args.clause.now in let i = c.loop-literal.literal-index in
    room_next (flat_map literal_text (take i xs)) (literal_text (get_or xs i (negated 0))) c.args.self.now (room_until xs i (negated 0) c.loop-literal-test.true c.args.self.now c.requires) c.loop-literal.self c.loop-literal.invariant

pub loop-literal-preserved : goal.loop-literal-preserved
loop-literal-preserved c =
    let xs = c.args.clause.now in let i = c.loop-literal.literal-index in
    let lt = c.loop-literal-test.true in
    let P : List ℕ → Type 0 = λ text. Wrote text c.args.self.now c.literal.new.self in
    subst P (sym (texts_more xs i (negated 0) lt)) (wrote_next (flat_map literal_text (take i xs)) (literal_text (get_or xs i (negated 0))) c.args.self.now (room_until xs i (negated 0) lt c.args.self.now c.requires) c.loop-literal.self c.literal.new.self c.loop-literal.invariant c.literal.ensures)

pub returns : goal.returns
returns c =
    let P : Clause → Type 0 = λ d. Wrote (flat_map literal_text d) c.args.self.now c.loop-literal.self in
    subst P (take_all c.loop-literal.literal-index c.args.clause.now c.loop-literal-test.false) c.loop-literal.invariant
