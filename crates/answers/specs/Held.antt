-- What values hold of the literals that they were given.
use Rattle.std.specs.Prelude.{◌≡◌, ℕ, ◌+◌, ◌-◌, ◌<◌, Bool, true, not, ◌&&◌, List, [], ◌∷◌, length, is_some, None, Option, Result, slice_index_or}
use Rattle.cnf.specs.Questions.{ask, first_no}
use Rattle.cnf.specs.Clauses.{within}
use Rattle.cnf.specs.declared.clause.Literal.{Literal}
use Rattle.answers.specs.declared.refusals.Refusal.{Refusal}
use Rattle.answers.specs.declared.refusals.Refusal.TheVariants.{Variable}
use Rattle.answers.specs.Values.{value, fresh}

-- question 47, answered by b
abbrev pub sound_if : Bool → Result (Unit {0}) Refusal
sound_if b = first_no (ask b Variable ∷ []) tt

-- the variable of n has a place among the values, and no value
abbrev pub free : List (Option Bool) → Literal → Bool
free values n = within (length values) n && not (is_some (slice_index_or values (n.variable - 1) None))

-- the values hold the literals ms, and `sound` says whether question 47 is answered by yes
pub record Holds (values : List (Option Bool)) (sound : Result (Unit {0}) Refusal) (ms : List Literal) : Type 0 where
  pub judged : sound ≡ sound_if (fresh (length values) ms)
  pub valued : fresh (length values) ms ≡ true → (k : ℕ) → k < length values → slice_index_or values k None ≡ value ms (k + 1)
