-- The numbers that words write: in tens, with no leading zero, and with a minus in front where they are negative.
use Rattle.std.specs.Prelude.{ℕ, ◌+◌, ◌-◌, ◌*◌, Bool, cond, ◌&&◌, List, [], ◌∷◌, Some, None, Option, ◌==◌, nat_le}
use Rattle.cnf.specs.Clauses.{asserted, negated}
use Rattle.cnf.specs.declared.clause.Literal.{Literal}

-- is the character one of 0 to 9?
abbrev pub digit : ℕ → Bool
digit c = nat_le 48 c && nat_le c 57

-- the number that digits write after n was read
abbrev pub tens : List ℕ → ℕ → Option ℕ
tens [] n = Some n
tens (c ∷ cs) n = cond (digit c) (tens cs (10 * n + (c - 48))) None

-- 0 stands alone, and any other number starts with another digit
abbrev pub zero_only : List ℕ → Option ℕ
zero_only [] = Some 0
zero_only (c ∷ cs) = None

abbrev pub numeral : List ℕ → Option ℕ
numeral [] = None
numeral (c ∷ cs) = cond (c == 48) (zero_only cs) (tens (c ∷ cs) 0)

abbrev pub plus : Option ℕ → Option Literal
plus None = None
plus (Some n) = Some (asserted n)

-- there is no -0
abbrev pub minus : Option ℕ → Option Literal
minus None = None
minus (Some n) = cond (n == 0) None (Some (negated n))

-- a number as a literal; 0, which is no literal, as one with the variable 0
abbrev pub number : List ℕ → Option Literal
number [] = None
number (c ∷ cs) = cond (c == 45) (minus (numeral cs)) (plus (numeral (c ∷ cs)))
