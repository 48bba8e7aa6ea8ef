use Rattle.std.proofs.Common.{add-one, rules, arith}
use Rattle.mtl.specs.Sizes.{delayed_cells_at}
use Rattle.mtl.proofs.cells.delayed_cells.Goals as goal

pub returns-clause-value : goal.returns-clause-value
returns-clause-value c = rw add-one at (c.total.ensures.value (delayed_cells_at c.args.shape c.args.t) (λ i y h p. search rules))

pub returns-clause-small : goal.returns-clause-small
returns-clause-small c = omega (arith, c.total.ensures.small 1026 (λ i y h p. search rules))
