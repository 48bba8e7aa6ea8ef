use Rattle.std.proofs.Common.{add-one, rules, arith}
use Rattle.mtl.specs.Sizes.{total, closed_cells_at}
use Rattle.mtl.proofs.cells.closing_cells.Goals as goal

pub returns-clause-value : goal.returns-clause-value
returns-clause-value c = rw add-one at (c.total.ensures.value (λ l. total 0 c.args.t (closed_cells_at l)) (λ i y h p. search rules))

pub returns-clause-small : goal.returns-clause-small
returns-clause-small c = omega (arith, c.total.ensures.small 2040 (λ i y h p. search rules))
