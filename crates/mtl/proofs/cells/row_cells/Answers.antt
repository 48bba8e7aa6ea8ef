use Rattle.std.proofs.Common.{ap, ◌∙◌, arith}
use Rattle.mtl.specs.Rows.{distance}
use Rattle.mtl.specs.Sizes.{use_of, use_cells, extra_cells, closing_cells}
use Rattle.mtl.proofs.Sizes.{sized}
use Rattle.mtl.proofs.cells.row_cells.Goals as goal

pub returns : goal.returns
returns c =
    let k = c.args.k in
    let row = c.args.row in
    let op = c.operator-operator.ensures in
    let used = c.use_cells.ensures.value ∙ ap (use_cells k c.operator-operator.result.shape) c.use_of.ensures ∙ ap (λ o. use_cells k o.shape (use_of row)) op in
    let more = c.extra_cells.ensures.value ∙ ap (λ t. extra_cells k t c.operator-operator.result.extra) c.distance.ensures ∙ ap (λ o. extra_cells k (distance row) o.extra) op in
    let closed = c.closing_cells.ensures.value ∙ ap (closing_cells k) c.reach.ensures in
    record { value = λ rows. omega (arith, used, more, closed, sized.row_added k rows row); small = omega (arith, c.use_cells.ensures.small, c.extra_cells.ensures.small, c.closing_cells.ensures.small) }
