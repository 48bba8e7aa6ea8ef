-- What a list of clauses asks of a sink.
use Rattle.std.specs.Prelude.{◌≡◌}
use Rattle.cnf.specs.Clauses.{Clauses, longest_of, cells_of}
use Rattle.job.specs.declared.cost.Cost.{Cost}

pub record Costs (cs : Clauses) (c : Cost) : Type 0 where
  pub longest : c.longest ≡ longest_of cs
  pub cells : c.cells ≡ cells_of cs
