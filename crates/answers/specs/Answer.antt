-- The answer of a text: the first question that is answered by no, or the verdict.
use Rattle.std.specs.Prelude.{ℕ, Bool, true, cond, ◌||◌, List, [], ◌∷◌, ◌++◌, length, drop, is_some, Some, None, Ok, Err, codes, Option, Result, nat_le}
use Rattle.std.specs.Str.{bytes_eq}
use Rattle.cnf.specs.Questions.{Question, ask, first_no}
use Rattle.cnf.specs.declared.clause.Literal.{Literal}
use Rattle.text.specs.Split.{lines, kept}
use Rattle.answers.specs.declared.verdicts.Verdict.{Verdict}
use Rattle.answers.specs.declared.verdicts.Verdict.TheVariants.{Satisfiable, Unsatisfiable}
use Rattle.answers.specs.declared.refusals.Refusal.{Refusal}
use Rattle.answers.specs.declared.refusals.Refusal.TheVariants.{TextLength, AreaLength, Status, Form, Variable, Missing}
use Rattle.answers.specs.Reading.{literals}
use Rattle.answers.specs.Values.{fresh, complete, bytes}

-- the line of a verdict
abbrev pub verdict_line : Verdict → List ℕ
verdict_line Satisfiable = codes "s SATISFIABLE"
verdict_line Unsatisfiable = codes "s UNSATISFIABLE"

-- is it the line of a verdict?
abbrev pub is_status : List ℕ → Bool
is_status l = bytes_eq l (verdict_line Satisfiable) || bytes_eq l (verdict_line Unsatisfiable)

-- the verdict of such a line; which one it is for another line does not matter
abbrev pub verdict : List ℕ → Verdict
verdict l = cond (bytes_eq l (verdict_line Satisfiable)) Satisfiable Unsatisfiable

-- the first line, empty where there is none, and the lines after it
abbrev pub first : List (List ℕ) → List ℕ
first [] = []
first (l ∷ ls) = l

abbrev pub later : List (List ℕ) → List (List ℕ)
later [] = []
later (l ∷ ls) = ls

-- the literals of the lines after a verdict, where these have its form: no line follows UNSATISFIABLE
abbrev pub model : Verdict → List (List ℕ) → Option (List Literal)
model Satisfiable ls = literals ls
model Unsatisfiable [] = Some []
model Unsatisfiable (l ∷ ls) = None

abbrev pub or_empty : Option (List Literal) → List Literal
or_empty None = []
or_empty (Some lits) = lits

-- after SATISFIABLE each variable from 1 to v is given
abbrev pub all_given : Verdict → ℕ → List Literal → Bool
all_given Satisfiable v lits = complete v lits
all_given Unsatisfiable v lits = true

-- questions 43 to 45, of a text and an area of so many bytes
abbrev pub text_asks : ℕ → List ℕ → ℕ → List (Question Refusal)
text_asks v text room =
    ask (nat_le (length text) 60000) TextLength
    ∷ ask (nat_le v room) AreaLength
    ∷ ask (is_status (first (kept (lines text)))) Status
    ∷ []

-- questions 46 and 47, of literals
abbrev pub value_asks : ℕ → Option (List Literal) → List (Question Refusal)
value_asks v o = ask (is_some o) Form ∷ ask (fresh v (or_empty o)) Variable ∷ []

-- questions 46 to 48, of a verdict and its literals
abbrev pub model_asks : ℕ → Verdict → Option (List Literal) → List (Question Refusal)
model_asks v w o = value_asks v o ++ ask (all_given w v (or_empty o)) Missing ∷ []

-- the verdict of a text and its literals
abbrev pub verdict_of : List ℕ → Verdict
verdict_of text = verdict (first (kept (lines text)))

abbrev pub model_of : List ℕ → Option (List Literal)
model_of text = model (verdict_of text) (later (kept (lines text)))

-- the answer, for the variables 1 to v
abbrev pub answer : ℕ → List ℕ → ℕ → Result Verdict Refusal
answer v text room = first_no (text_asks v text room ++ model_asks v (verdict_of text) (model_of text)) (verdict_of text)

-- the area afterwards: only SATISFIABLE writes, and only the first v bytes
abbrev pub area_after : ℕ → Result Verdict Refusal → Option (List Literal) → List ℕ → List ℕ
area_after v (Ok Satisfiable) o area = bytes v (or_empty o) ++ drop v area
area_after v (Ok Unsatisfiable) o area = area
area_after v (Err e) o area = area
