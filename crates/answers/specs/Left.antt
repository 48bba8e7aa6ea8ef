-- What is left of the v lines, and what one step of reading takes of it.
use Rattle.std.specs.Prelude.{◌≡◌, ℕ, ◌+◌, ◌<◌, min, List, [], ◌∷◌, length, Some, None, Ok, Err, Option, Result}
use Rattle.std.specs.Borrow.{Bor}
use Rattle.cnf.specs.declared.clause.Literal.{Literal}
use Rattle.text.specs.Split.{words}
use Rattle.text.specs.Left.{kept_left, words_left}
use Rattle.answers.specs.declared.literals.Literals.{Literals}
use Rattle.answers.specs.declared.refusals.Refusal.{Refusal}
use Rattle.answers.specs.declared.refusals.Refusal.TheVariants.{Form}
use Rattle.answers.specs.Words.{number}
use Rattle.answers.specs.Reading.{front, join, each, numbers}

-- the numbers that are left
abbrev pub numbers_left : Literals → Option (List Literal)
numbers_left it = join (each (words_left it.words)) (numbers (kept_left it.lines))

-- how many words are left
abbrev pub words_in : List (List ℕ) → ℕ
words_in [] = 0
words_in (l ∷ ls) = length (words l) + words_in ls

abbrev pub count_left : Literals → ℕ
count_left it = length (words_left it.words) + words_in (kept_left it.lines)

-- a step that gives r leads from `before` to `after`: it gives the next word, or none where none is left
abbrev pub TakesWord : Literals → Result (Option (Bor (List ℕ))) Refusal → Literals → Type 0
TakesWord before (Ok (Some w)) after = (numbers_left before ≡ front (number w.now) (numbers_left after)) × (count_left after < count_left before)
TakesWord before (Ok None) after = numbers_left before ≡ Some []
TakesWord before (Err e) after = (e ≡ Form) × (numbers_left before ≡ None)

-- n is x, cut at 10,000
abbrev pub Like : Literal → Literal → Type 0
Like x n = (n.positive ≡ x.positive) × (n.variable ≡ min x.variable 10000)

-- the same of a number or a literal, which may be cut
abbrev pub Takes : Option (List Literal) → Result (Option Literal) Refusal → Option (List Literal) → Type 0
Takes before (Ok (Some n)) after = (x : Literal) × Like x n × (before ≡ front (Some x) after)
Takes before (Ok None) after = before ≡ Some []
Takes before (Err e) after = (e ≡ Form) × (before ≡ None)
