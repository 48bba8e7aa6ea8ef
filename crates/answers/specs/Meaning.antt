-- What each answer means, in the words of the grammar.
use Rattle.std.specs.Prelude.{◌≡◌, ℕ, ◌<◌, ◌≤◌, true, List, [], ◌++◌, length, drop, Ok, Err, Result}
use Rattle.std.specs.List.{AllByRecursion}
use Rattle.cnf.specs.Clauses.{truth}
use Rattle.cnf.specs.declared.clause.Literal.{Literal}
use Rattle.sinks.specs.Models.{assigned}
use Rattle.answers.specs.declared.verdicts.Verdict.{Verdict}
use Rattle.answers.specs.declared.verdicts.Verdict.TheVariants.{Satisfiable, Unsatisfiable}
use Rattle.answers.specs.declared.refusals.Refusal.{Refusal}
use Rattle.answers.specs.declared.refusals.Refusal.TheVariants.{TextLength, AreaLength, Status, Form, Variable, Missing}
use Rattle.answers.specs.Values.{bytes}
use Rattle.answers.specs.Grammar.{Begins, Says, Sound, Total}

-- the text is not too long, and the area not too short for the variables 1 to v
abbrev pub Fits : ℕ → List ℕ → ℕ → Type 0
Fits v text room = (length text ≤ 60000) × (v ≤ room)

-- Just one answer has its meaning.
abbrev pub Means : ℕ → List ℕ → ℕ → Result Verdict Refusal → Type 0
Means v text room (Err TextLength) = 60000 < length text
Means v text room (Err AreaLength) = (length text ≤ 60000) × (room < v)
Means v text room (Err Status) = Fits v text room × ((w : Verdict) → Begins text w → ⊥)
Means v text room (Err Form) = Fits v text room × (w : Verdict) × Begins text w × ((lits : List Literal) → Says text w lits → ⊥)
Means v text room (Err Variable) = Fits v text room × (w : Verdict) × (lits : List Literal) × Says text w lits × (Sound v lits → ⊥)
Means v text room (Err Missing) = Fits v text room × (lits : List Literal) × Says text Satisfiable lits × Sound v lits × (Total v lits → ⊥)
Means v text room (Ok Satisfiable) = Fits v text room × (lits : List Literal) × Says text Satisfiable lits × Sound v lits × Total v lits
Means v text room (Ok Unsatisfiable) = Fits v text room × Says text Unsatisfiable []

-- the assignment of an area makes each literal true
abbrev pub MakesTrue : List ℕ → List Literal → Type 0
MakesTrue area lits = AllByRecursion (λ n. truth (assigned area) n ≡ true) lits

-- The area after SATISFIABLE: the first v bytes are the values, 1 for true and 0 for false, and every other byte is as it was.
-- So the area makes each literal of the text true.
abbrev pub Satisfied : ℕ → List ℕ → List ℕ → List ℕ → Type 0
Satisfied v text before after =
    (lits : List Literal) × Says text Satisfiable lits × (after ≡ bytes v lits ++ drop v before) × MakesTrue after lits
