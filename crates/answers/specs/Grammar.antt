-- How an answer is written, and what its literals say: nothing here tells how a text is read.
use Rattle.std.specs.Prelude.{◌≡◌, ℕ, ◌+◌, ◌<◌, ◌≤◌, cond, List, [], ◌∷◌, ◌++◌, map, length, ◌==◌, ◌≢◌}
use Rattle.std.specs.List.{flat_map, AllByRecursion}
use Rattle.std.specs.Int.Digits.{digits_of}
use Rattle.cnf.specs.Clauses.{asserted}
use Rattle.cnf.specs.declared.clause.Literal.{Literal}
use Rattle.text.specs.Split.{lines, kept}
use Rattle.text.specs.Laws.{blank_before}
use Rattle.answers.specs.declared.verdicts.Verdict.{Verdict}
use Rattle.answers.specs.declared.verdicts.Verdict.TheVariants.{Satisfiable, Unsatisfiable}
use Rattle.answers.specs.Answer.{verdict_line}

-- a number in tens, with no leading zero
abbrev pub decimal : ℕ → List ℕ
decimal n = cond (n == 0) (48 ∷ []) (map (λ d. 48 + d) (digits_of 10 n))

-- a literal: its variable, with a minus in front where it is negative
abbrev pub shown : Literal → List ℕ
shown n = cond n.positive (decimal n.variable) (45 ∷ decimal n.variable)

-- v, and a blank before each number
abbrev pub v_line : List Literal → List ℕ
v_line ns = 118 ∷ blank_before (map shown ns)

-- the 0 after the literals
abbrev pub nought : Literal
nought = asserted 0

-- the lines ls write the literals, in groups of one number at least, and then the 0
pub record Written (ls : List (List ℕ)) (lits : List Literal) : Type 0 where
  pub groups : List (List Literal)
  pub each_line : ls ≡ map v_line groups
  pub each_some : AllByRecursion (λ ns. 0 < length ns) groups
  pub together : flat_map (λ ns. ns) groups ≡ lits ++ nought ∷ []
  pub no_zero : AllByRecursion (λ n. 0 < n.variable) lits

-- the lines after a verdict
abbrev pub Follows : Verdict → List (List ℕ) → List Literal → Type 0
Follows Satisfiable ls lits = Written ls lits
Follows Unsatisfiable ls lits = (ls ≡ []) × (lits ≡ [])

-- the first line of a text that does not start with c is the verdict's
abbrev pub Begins : List ℕ → Verdict → Type 0
Begins text w = (after : List (List ℕ)) × (kept (lines text) ≡ verdict_line w ∷ after)

-- the lines of a text that do not start with c are the verdict's line and then those of its literals
pub record Says (text : List ℕ) (w : Verdict) (lits : List Literal) : Type 0 where
  pub after : List (List ℕ)
  pub made : kept (lines text) ≡ verdict_line w ∷ after
  pub follows : Follows w after lits

-- no variable stands in two literals
abbrev pub Distinct : List Literal → Type 0
Distinct [] = Unit {0}
Distinct (n ∷ ns) = AllByRecursion (λ m. m.variable ≢ n.variable) ns × Distinct ns

-- each variable is 1 to v and new
abbrev pub Sound : ℕ → List Literal → Type 0
Sound v lits = AllByRecursion (λ n. (1 ≤ n.variable) × (n.variable ≤ v)) lits × Distinct lits

-- the variable has a literal
abbrev pub Named : ℕ → List Literal → Type 0
Named x lits = (front : List Literal) × (back : List Literal) × (n : Literal) × (lits ≡ front ++ n ∷ back) × (n.variable ≡ x)

-- each of the variables 1 to v has one
abbrev pub Total : ℕ → List Literal → Type 0
Total v lits = (x : ℕ) → 1 ≤ x → x ≤ v → Named x lits
