use Rattle.mtl.specs.Shapes.{each}
use Rattle.encode.specs.Parts.{clauses_at}
use Rattle.encode.proofs.emit.write_part.Given as goal

abbrev pub invariant-loop-i : goal.invariant-loop-i
invariant-loop-i g l = g.R.Receiver.reception.took l.initial.out (each 0 l.i (clauses_at l.p l.guard l.part)) l.out
