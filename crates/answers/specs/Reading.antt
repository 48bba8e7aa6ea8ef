-- The literals of the v lines. What these are, apart from how they are found, is said in Grammar and Laws.
use Rattle.std.specs.Prelude.{ℕ, cond, List, [], ◌∷◌, ◌++◌, Some, None, Option, ◌==◌}
use Rattle.std.specs.Str.{bytes_eq}
use Rattle.cnf.specs.declared.clause.Literal.{Literal}
use Rattle.text.specs.Split.{words}
use Rattle.answers.specs.Words.{number}

abbrev pub front : Option Literal → Option (List Literal) → Option (List Literal)
front None rest = None
front (Some n) None = None
front (Some n) (Some ns) = Some (n ∷ ns)

abbrev pub join : Option (List Literal) → Option (List Literal) → Option (List Literal)
join None rest = None
join (Some ms) None = None
join (Some ms) (Some ns) = Some (ms ++ ns)

-- each word is a number
abbrev pub each : List (List ℕ) → Option (List Literal)
each [] = Some []
each (w ∷ ws) = front (number w) (each ws)

-- the word v, and one number at least
abbrev pub after_v : List (List ℕ) → Option (List Literal)
after_v [] = None
after_v (v ∷ []) = None
after_v (v ∷ w ∷ ws) = cond (bytes_eq v (118 ∷ [])) (each (w ∷ ws)) None

abbrev pub numbers : List (List ℕ) → Option (List Literal)
numbers [] = Some []
numbers (l ∷ ls) = join (after_v (words l)) (numbers ls)

-- the numbers before the 0, which stands once and last
abbrev pub closed : List Literal → Option (List Literal)
closed [] = None
closed (n ∷ []) = cond (n.variable == 0) (Some []) None
closed (n ∷ m ∷ ns) = cond (n.variable == 0) None (front (Some n) (closed (m ∷ ns)))

abbrev pub close : Option (List Literal) → Option (List Literal)
close None = None
close (Some ns) = closed ns

-- the literals of the v lines
abbrev pub literals : List (List ℕ) → Option (List Literal)
literals ls = close (numbers ls)
