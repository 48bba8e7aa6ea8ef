use Rattle.std.proofs.Common.{ap, ◌∙◌, arith}
use Rattle.mtl.specs.Rows.{distance}
use Rattle.mtl.specs.Sizes.{use_of, use_longest, extra_longest, closing_longest}
use Rattle.mtl.proofs.Sizes.{sized}
use Rattle.mtl.proofs.cells.row_longest.Goals as goal

pub returns : goal.returns
returns c rows =
    let k = c.args.k in
    let row = c.args.row in
    let op = c.operator-operator.ensures in
    let used = c.use_longest.ensures ∙ ap (use_longest k c.operator-operator.result.shape) c.use_of.ensures ∙ ap (λ o. use_longest k o.shape (use_of row)) op in
    let more = c.extra_longest.ensures ∙ ap (λ t. extra_longest t c.operator-operator.result.extra) c.distance.ensures ∙ ap (λ o. extra_longest (distance row) o.extra) op in
    let closed = c.closing_longest.ensures ∙ ap (closing_longest k) c.reach.ensures in
    omega (arith, used, more, closed, sized.row_added_longest k rows row)
