use Rattle.std.proofs.Common.{◌+◌, ◌*◌, sym, ap, ◌∙◌, add-one, arith}
use Rattle.std.proofs.lemmas.Nat.{mul-le}
use Rattle.mtl.specs.Sizes.{shape_cells, use_cells}
use Rattle.mtl.proofs.cells.use_cells.Goals as goal

pub returns-in-Each : goal.returns-in-Each
returns-in-Each c =
    let k = c.args.k in
    let s = c.args.shape in
    let n = c.shape_size.result.cells in
    record {
      value = ap (λ m. (k + 1) * m) c.shape_size.ensures.cells ∙ ap (λ m. m * shape_cells s c.in-Each.t) (add-one k) ∙ sym (ap (use_cells k s) c.in-Each.is);
      small = omega (arith, mul-le (k + 1) n 256 1026 (omega (arith, c.ranges.k)) c.shape_size.ensures.small.1);
    }
