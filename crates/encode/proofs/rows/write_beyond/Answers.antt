use Rattle.encode.specs.Parts.{beyond_at}
use Rattle.encode.proofs.Receive.{turn_fits, turn_took}
use Rattle.encode.proofs.rows.write_beyond.Goals as goal

pub write_whole-requires : goal.write_whole-requires
write_whole-requires g c =
    turn_fits g.R.Receiver.reception (beyond_at c.args.p) c.loop-j.j c.args.t.value c.requires c.loop-j-test.true c.loop-j.invariant

pub loop-j-preserved : goal.loop-j-preserved
loop-j-preserved g c = turn_took g.R.Receiver.reception (beyond_at c.args.p) c.loop-j.j c.loop-j.invariant c.write_whole.ensures
