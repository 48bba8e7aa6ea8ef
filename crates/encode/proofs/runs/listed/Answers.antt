use Rattle.std.proofs.Common.{length, ap, zero-add, arith, length-append}
use Rattle.encode.proofs.Spans.{span_more}
use Rattle.encode.proofs.runs.listed.Goals as goal

pub loop-j-preserved : goal.loop-j-preserved
loop-j-preserved g c = (
  omega (arith, simp length-append at (ap length c.push.ensures)),
  λ f gives.
      let more = rw zero-add at (span_more f 0 c.loop-j.j) in
      let old = c.loop-j.invariant.1 f gives in
      let here = gives c.loop-j.j c.literal_at.result c.loop-j-test.true c.literal_at.ensures in
      cc,
)
