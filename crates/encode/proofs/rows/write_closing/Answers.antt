use Rattle.std.proofs.Common.{◌≡◌, suc, ◌<◌, subst, arith}
use Rattle.mtl.specs.Shapes.{each}
use Rattle.encode.specs.Parts.{closing_at}
use Rattle.encode.proofs.Receive.{turn_fits, turn_took}
use Rattle.encode.proofs.rows.write_closing.Goals as goal

pub write_part-requires-clause-room : goal.write_part-requires-clause-room
write_part-requires-clause-room g c =
    let lt : c.loop-l.l < suc c.args.p.k = omega arith in
    turn_fits g.R.Receiver.reception (closing_at c.args.p c.args.s) c.loop-l.l (suc c.args.p.k) c.requires lt c.loop-l.invariant

pub loop-l-preserved : goal.loop-l-preserved
loop-l-preserved g c = turn_took g.R.Receiver.reception (closing_at c.args.p c.args.s) c.loop-l.l c.loop-l.invariant c.write_part.ensures

pub returns : goal.returns
returns g c =
    let done : c.loop-l.l ≡ suc c.args.p.k = omega arith in
    subst (λ n. g.R.Receiver.reception.took c.args.out.now (each 0 n (closing_at c.args.p c.args.s)) c.loop-l.out) done c.loop-l.invariant
