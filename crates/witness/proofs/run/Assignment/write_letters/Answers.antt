use Rattle.std.proofs.Common.{arith}
use Rattle.sinks.specs.Models.{assigned}
use Rattle.mtl.specs.Layout.{rows_of}
use Rattle.witness.specs.Shown.{shown}
use Rattle.witness.proofs.Reading.{set_more}
use Rattle.witness.proofs.run.Assignment.write_letters.Goals as goal

pub loop-i-preserved : goal.loop-i-preserved
loop-i-preserved c =
    let s = c.args.self.now in
    set_more c.loop-i.letters c.loop-i.i c.letter.result (shown s.bound (assigned s.bytes.now) (rows_of s.table.now))
    (omega arith) c.letter.ensures c.loop-i.invariant
