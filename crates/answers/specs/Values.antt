-- What literals give each variable.
use Rattle.std.specs.Prelude.{ℕ, zero, suc, Bool, true, false, cond, not, ◌&&◌, List, [], ◌∷◌, ◌++◌, is_some, Some, None, Option, ◌==◌}
use Rattle.cnf.specs.Clauses.{within}
use Rattle.cnf.specs.declared.clause.Literal.{Literal}

-- what the literals give a variable
abbrev pub value : List Literal → ℕ → Option Bool
value [] x = None
value (n ∷ ns) x = cond (n.variable == x) (Some n.positive) (value ns x)

abbrev pub given : List Literal → ℕ → Bool
given ns x = is_some (value ns x)

-- each variable is 1 to v, and none is given twice
abbrev pub fresh : ℕ → List Literal → Bool
fresh v [] = true
fresh v (n ∷ ns) = (within v n && not (given ns n.variable)) && fresh v ns

-- each variable from 1 to v is given
abbrev pub complete : ℕ → List Literal → Bool
complete zero ns = true
complete (suc x) ns = given ns (suc x) && complete x ns

-- 1 for true, 0 for false
abbrev pub bit : Option Bool → ℕ
bit (Some true) = 1
bit (Some false) = 0
bit None = 0

-- the bytes of the variables 1 to v
abbrev pub bytes : ℕ → List Literal → List ℕ
bytes zero ns = []
bytes (suc x) ns = bytes x ns ++ bit (value ns (suc x)) ∷ []
