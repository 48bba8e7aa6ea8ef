use Rattle.std.proofs.Common.{take}
use Rattle.std.specs.List.{flat_map}
use Rattle.sinks.specs.Lines.{literal_text}
use Rattle.sinks.specs.Pens.{Wrote}
use Rattle.sinks.proofs.pen.Pen.literals.Given as goal

abbrev pub invariant-loop-literal : goal.invariant-loop-literal
invariant-loop-literal l = Wrote (flat_map literal_text (take l.literal-index l.clause)) l.initial.self l.self
