-- One clause through a switch into an empty writer.
use Rattle.std.specs.Prelude.{◌≡◌, ℕ, ◌/◌, List, ◌∷◌, length, Ok, Result}
use Rattle.cnf.specs.Clauses.{Clause, negated}
use Rattle.cnf.specs.declared.refusal.Refusal.{Refusal}
use Rattle.cnf.specs.Refusals.{verdict}
use Rattle.cnf.specs.Layers.{switch_longest}
use Rattle.sinks.specs.Lines.{line, over, writer_cells}

-- what the switch answers
abbrev pub one_answer : ℕ → Clause → List ℕ → Result (Unit {0}) Refusal
one_answer v c area = verdict (switch_longest v 9999 40) 9999 (writer_cells (length area) 0 / 2) c

-- the line stands at the front of the area, n bytes long, and every byte behind it is as it was
pub record WroteOne (v : ℕ) (c : Clause) (before after : List ℕ) (n : ℕ) : Type 0 where
  pub answer : one_answer v c before ≡ Ok tt
  pub bytes : after ≡ over before 0 (line (negated v ∷ c))
  pub size : n ≡ length (line (negated v ∷ c))
