-- Why a sink refuses a clause.
use Rattle.std.specs.Prelude.{ℕ, ◌+◌, ◌&&◌, List, [], ◌∷◌, length, Result, nat_le}
use Rattle.cnf.specs.declared.refusal.Refusal.{Refusal}
use Rattle.cnf.specs.declared.refusal.Refusal.TheVariants.{Length, Variable, Cells}
use Rattle.cnf.specs.Clauses.{Clause, in_range}
use Rattle.cnf.specs.Questions.{Question, ask, first_no}

-- the number of each refusal
abbrev pub number : Refusal → ℕ
number Length = 40
number Variable = 41
number Cells = 42

-- what is asked of a clause, by the longest clause, the highest variable and the free cells
abbrev pub take_asks : ℕ → ℕ → ℕ → Clause → List (Question Refusal)
take_asks longest highest cells c =
    ask (nat_le 1 (length c) && nat_le (length c) longest) Length
    ∷ ask (in_range highest c) Variable
    ∷ ask (nat_le (length c + 1) cells) Cells
    ∷ []

abbrev pub verdict : ℕ → ℕ → ℕ → Clause → Result (Unit {0}) Refusal
verdict longest highest cells c = first_no (take_asks longest highest cells c) tt
