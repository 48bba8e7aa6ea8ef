-- Worked cases of lines and of free cells.
use Rattle.std.specs.Prelude.{◌≡◌, true, false, [], ◌∷◌, is_ok, codes}
use Rattle.cnf.specs.declared.clause.Literal.{Literal}
use Rattle.cnf.specs.Clauses.{Clause, asserted, negated, within}
use Rattle.cnf.specs.Refusals.{verdict}
use Rattle.sinks.specs.Lines.{line, writer_cells}

pub record Cases : Type 0 where
  -- the clause 5 -6 through the switch 9
  pub switched : line (negated 9 ∷ asserted 5 ∷ negated 6 ∷ []) ≡ codes "-9 5 -6 0\n"
  -- eleven free bytes take no clause, twelve take one literal
  pub eleven : (c : Clause) → is_ok (verdict 40 9999 (writer_cells 11 0) c) ≡ false
  pub twelve : (l : Literal) → within 9999 l ≡ true → is_ok (verdict 40 9999 (writer_cells 12 0) (l ∷ [])) ≡ true
