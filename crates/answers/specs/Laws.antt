-- What is read is what is written: the questions and the values, in the words of the grammar.
use Rattle.std.specs.Prelude.{◌≡◌, ℕ, suc, ◌<◌, true, false, ◌↔◌, List, [], ◌∷◌, ◌++◌, length, Some, Result, slice_index}
use Rattle.std.specs.List.{AllByRecursion}
use Rattle.cnf.specs.declared.clause.Literal.{Literal}
use Rattle.text.specs.Split.{lines, kept, words}
use Rattle.text.specs.Laws.{page}
use Rattle.answers.specs.declared.verdicts.Verdict.{Verdict}
use Rattle.answers.specs.declared.verdicts.Verdict.TheVariants.{Satisfiable}
use Rattle.answers.specs.declared.refusals.Refusal.{Refusal}
use Rattle.answers.specs.Reading.{after_v, literals}
use Rattle.answers.specs.Values.{value, fresh, complete, bit, bytes}
use Rattle.answers.specs.Answer.{verdict_line, is_status, first, verdict_of, model_of, answer}
use Rattle.answers.specs.Grammar.{v_line, nought, Written, Says, Sound, Total}
use Rattle.answers.specs.Meaning.{Means, MakesTrue}

-- there is no -0
abbrev pub Proper : Literal → Type 0
Proper n = n.positive ≡ false → 0 < n.variable

-- a line is read as the numbers ns just where it is the v line of ns
pub record LineLaw : Type 0 where
  pub reads : (ns : List Literal) → 0 < length ns → AllByRecursion Proper ns → after_v (words (v_line ns)) ≡ Some ns
  pub only : (l : List ℕ) (ns : List Literal) → after_v (words l) ≡ Some ns → (l ≡ v_line ns) × (0 < length ns) × AllByRecursion Proper ns

-- lines have just those literals that they write
abbrev pub LiteralsLaw : Type 0
LiteralsLaw = (ls : List (List ℕ)) (lits : List Literal) → (literals ls ≡ Some lits) ↔ Written ls lits

-- a text is read as a verdict and literals just where it says them
abbrev pub SaysLaw : Type 0
SaysLaw =
    (text : List ℕ) (w : Verdict) (lits : List Literal)
    → ((is_status (first (kept (lines text))) ≡ true) × (verdict_of text ≡ w) × (model_of text ≡ Some lits)) ↔ Says text w lits

-- a text of some literals, on one line
abbrev pub told : List Literal → List ℕ
told lits = page (verdict_line Satisfiable ∷ v_line (lits ++ nought ∷ []) ∷ [])

-- it says them: there is an answer for every list of literals
abbrev pub ToldLaw : Type 0
ToldLaw = (lits : List Literal) → AllByRecursion (λ n. 0 < n.variable) lits → Says (told lits) Satisfiable lits

-- what 47 and 48 ask
abbrev pub SoundLaw : Type 0
SoundLaw = (v : ℕ) (lits : List Literal) → (fresh v lits ≡ true) ↔ Sound v lits

abbrev pub TotalLaw : Type 0
TotalLaw = (v : ℕ) (lits : List Literal) → (complete v lits ≡ true) ↔ Total v lits

-- the bytes that are written say what the literals say, and the judge reads each literal as true there
pub record ValuesLaw : Type 0 where
  pub each_literal : (v : ℕ) (lits : List Literal) → Sound v lits → AllByRecursion (λ n. value lits n.variable ≡ Some n.positive) lits
  pub each_byte : (v : ℕ) (lits : List Literal) (rest : List ℕ) (i : ℕ) → i < v → slice_index (bytes v lits ++ rest) i ≡ bit (value lits (suc i))
  pub all_true : (v : ℕ) (lits : List Literal) (rest : List ℕ) → Sound v lits → MakesTrue (bytes v lits ++ rest) lits

-- an answer by the six questions is the one with that meaning
abbrev pub AnswerLaw : Type 0
AnswerLaw = (v : ℕ) (text : List ℕ) (room : ℕ) (r : Result Verdict Refusal) → (answer v text room ≡ r) ↔ Means v text room r
