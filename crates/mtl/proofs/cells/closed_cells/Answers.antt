use Rattle.std.proofs.Common.{rules, arith}
use Rattle.mtl.proofs.cells.closed_cells.Goals as goal

pub returns-clause-small : goal.returns-clause-small
returns-clause-small c = omega (arith, c.total.ensures.small 8 (λ i y h p. search rules))
