-- What a receiver of clauses promises.
use Rattle.std.specs.Prelude.{[], ◌++◌}
use Rattle.cnf.specs.Clauses.{Clauses}

-- took s cs t says that the receiver came from s to t by the clauses cs, and fits s cs that it can take them at s
pub record Reception (S : Type 0) : Type 1 where
  pub took : S → Clauses → S → Type 0
  pub fits : S → Clauses → Type 0
  pub none : (s : S) → took s [] s
  pub join : (s t u : S) (a b : Clauses) → took s a t → took t b u → took s (a ++ b) u
  pub front : (s : S) (a b : Clauses) → fits s (a ++ b) → fits s a
  pub back : (s t : S) (a b : Clauses) → fits s (a ++ b) → took s a t → fits t b
