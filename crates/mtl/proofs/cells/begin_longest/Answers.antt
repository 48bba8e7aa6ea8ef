use Rattle.std.proofs.Common.{ap, arith}
use Rattle.mtl.specs.Sizes.{if_any}
use Rattle.mtl.proofs.Sizes.{sized}
use Rattle.mtl.proofs.cells.begin_longest.Goals as goal

pub returns : goal.returns
returns c =
    let k = c.args.k in
    omega (arith, sized.begins_longest k, c.if_any.ensures, ap (if_any k) c.shape_size-2.ensures.longest)
