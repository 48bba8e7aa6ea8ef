use Rattle.std.proofs.Common.{arith}
use Rattle.mtl.specs.Layout.{rows_of}
use Rattle.mtl.proofs.Places.{top_at}
use Rattle.mtl.proofs.table.Table.highest.Goals as goal

pub overflow_sub-result : goal.overflow_sub-result
overflow_sub-result c = omega (arith, c.top.ensures.value, top_at c.args.k (rows_of c.args.self.now))
