-- Literals and clauses, and their truth under an assignment.
use Rattle.std.specs.Prelude.{ℕ, ◌+◌, max, Bool, true, false, cond, not, ◌&&◌, ◌||◌, List, [], ◌∷◌, length, nat_le}
use Rattle.cnf.specs.declared.clause.Literal.{Literal}

-- an assignment gives each variable a truth value
abbrev pub Assignment : Type 0
Assignment = ℕ → Bool

abbrev pub Clause : Type 0
Clause = List Literal

abbrev pub Clauses : Type 0
Clauses = List Clause

-- the two literals of a variable
abbrev pub asserted : ℕ → Literal
asserted v = record { variable = v; positive = true }

abbrev pub negated : ℕ → Literal
negated v = record { variable = v; positive = false }

abbrev pub opposite : Literal → Literal
opposite l = record { variable = l.variable; positive = not l.positive }

-- the literal l, or its opposite where b is false
abbrev pub given : Bool → Literal → Literal
given b l = cond b l (opposite l)

abbrev pub truth : Assignment → Literal → Bool
truth α l = cond l.positive (α l.variable) (not (α l.variable))

-- a clause is true if one of its literals is
abbrev pub sat : Assignment → Clause → Bool
sat α [] = false
sat α (l ∷ ls) = truth α l || sat α ls

-- every clause of a list is true
abbrev pub sat_all : Assignment → Clauses → Bool
sat_all α [] = true
sat_all α (c ∷ cs) = sat α c && sat_all α cs

-- the cells of a list: its clauses plus its literals
abbrev pub cells_of : Clauses → ℕ
cells_of [] = 0
cells_of (c ∷ cs) = (length c + 1) + cells_of cs

-- the number of literals of a list's longest clause, 0 where it has none
abbrev pub longest_of : Clauses → ℕ
longest_of [] = 0
longest_of (c ∷ cs) = max (length c) (longest_of cs)

-- a literal's variable lies between 1 and the highest
abbrev pub within : ℕ → Literal → Bool
within highest l = nat_le 1 l.variable && nat_le l.variable highest

abbrev pub in_range : ℕ → Clause → Bool
in_range highest [] = true
in_range highest (l ∷ ls) = within highest l && in_range highest ls

abbrev pub all_in_range : ℕ → Clauses → Bool
all_in_range highest [] = true
all_in_range highest (c ∷ cs) = in_range highest c && all_in_range highest cs
