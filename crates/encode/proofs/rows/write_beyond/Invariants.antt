use Rattle.mtl.specs.Shapes.{each}
use Rattle.encode.specs.Parts.{beyond_at}
use Rattle.encode.proofs.rows.write_beyond.Given as goal

abbrev pub invariant-loop-j : goal.invariant-loop-j
invariant-loop-j g l = g.R.Receiver.reception.took l.initial.out (each 0 l.j (beyond_at l.p)) l.out
