-- Some texts and their answers.
use Rattle.std.specs.Prelude.{◌≡◌, ℕ, List, [], ◌∷◌, ◌++◌, Ok, Err, codes}
use Rattle.answers.specs.declared.verdicts.Verdict.TheVariants.{Satisfiable, Unsatisfiable}
use Rattle.answers.specs.declared.refusals.Refusal.TheVariants.{AreaLength, Status, Form, Variable, Missing}
use Rattle.answers.specs.Answer.{answer, area_after, model_of}

-- the lines of texts, each with its line feed but the last
abbrev pub below : List ℕ → List ℕ → List ℕ
below l rest = l ++ 10 ∷ rest

abbrev pub sat : List ℕ → List ℕ
sat rest = below (codes "s SATISFIABLE") rest

abbrev pub two_lines : List ℕ
two_lines = below (codes "c of three") (sat (below (codes "v -3 1") (below (codes "c between") (codes "v -2 0"))))

pub record Cases : Type 0 where
  pub one_line : answer 4 (sat (codes "v 1 2 3 4 0")) 4 ≡ Ok Satisfiable
  pub several_lines : answer 3 two_lines 4 ≡ Ok Satisfiable
  pub written : area_after 3 (Ok Satisfiable) (model_of two_lines) (7 ∷ 7 ∷ 7 ∷ 9 ∷ []) ≡ 1 ∷ 0 ∷ 0 ∷ 9 ∷ []
  pub no_variable : answer 0 (sat (codes "v 0")) 0 ≡ Ok Satisfiable
  pub unsatisfiable : answer 2 (below (codes "c a") (below (codes "s UNSATISFIABLE") (codes "c b"))) 2 ≡ Ok Unsatisfiable
  pub no_room : answer 2 (codes "s UNKNOWN") 1 ≡ Err AreaLength
  pub unknown : answer 2 (codes "s UNKNOWN") 2 ≡ Err Status
  pub nothing : answer 0 [] 0 ≡ Err Status
  pub no_v_line : answer 0 (sat []) 0 ≡ Err Form
  pub bare_v : answer 4 (sat (codes "v")) 4 ≡ Err Form
  pub leading_zero : answer 4 (sat (codes "v 01 0")) 4 ≡ Err Form
  pub minus_zero : answer 4 (sat (codes "v 1 -0")) 4 ≡ Err Form
  pub two_blanks : answer 4 (sat (codes "v 1  0")) 4 ≡ Err Form
  pub blank_at_end : answer 4 (sat (codes "v 1 0 ")) 4 ≡ Err Form
  pub form_first : answer 4 (sat (codes "v 1 1 0 2")) 4 ≡ Err Form
  pub after_unsatisfiable : answer 2 (below (codes "s UNSATISFIABLE") (codes "v 0")) 2 ≡ Err Form
  pub twice : answer 4 (sat (codes "v 1 -1 0")) 4 ≡ Err Variable
  pub too_high : answer 4 (sat (codes "v 1 5 0")) 4 ≡ Err Variable
  pub huge : answer 4 (sat (codes "v 123456789012345678901234567890 0")) 4 ≡ Err Variable
  pub missing : answer 2 (sat (codes "v 1 0")) 2 ≡ Err Missing
