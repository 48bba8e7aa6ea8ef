-- The questions that a call asks in order: the first no is its answer.
use Rattle.std.specs.Prelude.{Bool, cond, List, [], ◌∷◌, Ok, Err, Result}

-- a question that is answered yes or no, with the refusal for a no
pub record Question (E : Type 0) : Type 0 where
  pub yes : Bool
  pub refusal : E

abbrev pub ask : {E : Type 0} → Bool → E → Question E
ask b e = record { yes = b; refusal = e }

-- the refusal of the first no, or x where there is none
abbrev pub first_no : {X E : Type 0} → List (Question E) → X → Result X E
first_no [] x = Ok x
first_no (q ∷ qs) x = cond q.yes (first_no qs x) (Err q.refusal)
