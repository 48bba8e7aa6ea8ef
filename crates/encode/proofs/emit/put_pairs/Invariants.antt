use Rattle.std.proofs.Common.{[], ◌∷◌, map, take}
use Rattle.encode.specs.Parts.{behind}
use Rattle.encode.proofs.emit.put_pairs.Given as goal

abbrev pub invariant-loop-other : goal.invariant-loop-other
invariant-loop-other g l = g.R.Receiver.reception.took l.initial.out (map (λ y. behind l.guard (l.first ∷ y ∷ [])) (take l.other-index l.others)) l.out
