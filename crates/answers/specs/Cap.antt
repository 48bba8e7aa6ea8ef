-- Numbers cut at 10,000, which is above every variable of a job.
use Rattle.std.specs.Prelude.{ℕ, min, Some, None, Option}
use Rattle.cnf.specs.declared.clause.Literal.{Literal}

abbrev pub capped : Option ℕ → Option ℕ
capped None = None
capped (Some n) = Some (min n 10000)

abbrev pub short : Option Literal → Option Literal
short None = None
short (Some n) = Some (record { variable = min n.variable 10000; positive = n.positive })
