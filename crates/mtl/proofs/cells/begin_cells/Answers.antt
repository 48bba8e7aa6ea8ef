use Rattle.std.proofs.Common.{◌*◌, ap, arith}
use Rattle.mtl.proofs.Sizes.{sized}
use Rattle.mtl.proofs.cells.begin_cells.Goals as goal

pub returns : goal.returns
returns c =
    let k = c.args.k in
    let rest = ap (λ n. k * n) c.shape_size-either.ensures.cells in
    record { value = omega (arith, rest, c.shape_size-same.ensures.cells, sized.begins k); small = omega (arith, rest, c.shape_size-same.ensures.cells, c.ranges.k) }
