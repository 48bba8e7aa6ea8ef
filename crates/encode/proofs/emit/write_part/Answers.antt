use Rattle.std.proofs.Common.{refl}
use Rattle.encode.specs.Parts.{clauses_at}
use Rattle.encode.proofs.Receive.{fits_as, turn_fits, turn_took}
use Rattle.encode.proofs.emit.write_part.Goals as goal

pub write_claim-requires : goal.write_claim-requires
write_claim-requires g c =
    fits_as g.R.Receiver.reception _ (rw (c.guard_of.ensures, c.claim_of.ensures) refl) (turn_fits g.R.Receiver.reception (clauses_at c.args.p c.args.guard c.args.part) c.loop-i.i c.args.n c.requires.room c.loop-i-test.true c.loop-i.invariant)

pub loop-i-preserved : goal.loop-i-preserved
loop-i-preserved g c =
    turn_took g.R.Receiver.reception (clauses_at c.args.p c.args.guard c.args.part) c.loop-i.i c.loop-i.invariant (rw (c.guard_of.ensures, c.claim_of.ensures) at c.write_claim.ensures)
