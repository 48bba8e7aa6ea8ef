use Rattle.std.proofs.Common.{add-one, rules, arith}
use Rattle.std.proofs.Common.{min}
use Rattle.mtl.specs.Sizes.{shape_cells}
use Rattle.mtl.proofs.cells.down_cells.Goals as goal

pub returns-clause-value : goal.returns-clause-value
returns-clause-value c = rw add-one at (c.total.ensures.value (λ i. shape_cells c.args.shape (min i c.args.t)) (λ i y h p. search rules))

pub returns-clause-small : goal.returns-clause-small
returns-clause-small c = omega (arith, c.total.ensures.small 1026 (λ i y h p. search rules))
