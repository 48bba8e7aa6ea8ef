use Rattle.mtl.specs.Shapes.{each}
use Rattle.encode.specs.Parts.{closing_at}
use Rattle.encode.proofs.rows.write_closing.Given as goal

abbrev pub invariant-loop-l : goal.invariant-loop-l
invariant-loop-l g l = g.R.Receiver.reception.took l.initial.out (each 0 l.l (closing_at l.p l.s)) l.out
