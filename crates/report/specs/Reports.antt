-- What a report says of a script and a solver's answer to its clauses.
use Rattle.std.specs.Prelude.{◌≡◌, ℕ, zero, suc, ◌+◌, ◌≤◌, List, length, replicate, Ok, Err, Result}
use Rattle.bounded.specs.Items.{items}
use Rattle.sinks.specs.declared.judge.Judge.{Judge}
use Rattle.sinks.specs.declared.writer.Writer.{Writer}
use Rattle.sinks.specs.Lines.{over}
use Rattle.sinks.specs.Models.{writer_model, NewWriter, judge_model, NewJudge, assigned}
use Rattle.mtl.specs.Statements.{Obeys}
use Rattle.job.specs.Calls.{State, highest}
use Rattle.job.specs.Bottoms.{first_false}
use Rattle.script.specs.declared.refusal.Stop.{Stop}
use Rattle.script.specs.Scripts.{clauses, DroveScript}
use Rattle.answers.specs.declared.refusals.Refusal.{Refusal as AnswerRefusal}
use Rattle.answers.specs.declared.verdicts.Verdict.{Verdict}
use Rattle.answers.specs.declared.verdicts.Verdict.TheVariants as verdict
use Rattle.answers.specs.Answer.{answer, area_after, model_of}
use Rattle.witness.specs.declared.refusal.Refusal.{Refusal as RunRefusal}
use Rattle.witness.specs.Fills.{run_of}
use Rattle.witness.specs.Shown.{run_answer, LettersShown}
use Rattle.report.specs.declared.outcome.Report.{Report}
use Rattle.report.specs.declared.outcome.Report.TheVariants.{Unsatisfiable, Out, Shown}
use Rattle.report.specs.declared.outcome.ShownRun.{ShownRun}
use Rattle.report.specs.declared.outcome.Told.{Told}
use Rattle.report.specs.declared.refusal.Refusal.{Refusal}
use Rattle.report.specs.declared.refusal.Refusal.TheVariants.{Script, Answer, Run}
use Rattle.report.specs.Texts.{text_of}

abbrev pub Outcome : Type 0
Outcome = Result Report Refusal

-- x is the run of the assignment in the area: settled for the rows that the job knows, and keeping its requirements
pub record RunTold (s : State) (area : List ℕ) (l : ℕ) (x : ShownRun) : Type 0 where
  pub instants : length (items x.letters) ≡ s.bound + 1
  pub start : x.start ≡ l
  pub letters : LettersShown s.bound (assigned area) s.rows (items x.letters)
  pub inside : l ≤ s.bound
  pub obeys : Obeys s.bound s.rows s.kept (run_of s.bound l inside (items x.letters))

-- once judged in: by what the run call answers
abbrev pub ByRun : State → List ℕ → Result ℕ RunRefusal → Outcome → Type 0
ByRun s area (Ok l) r = (x : ShownRun) × (r ≡ Ok (Shown x)) × RunTold s area l x
ByRun s area (Err e) r = r ≡ Err (Run e)

-- by the number of the first false clause, or 0
abbrev pub ByClause : State → List ℕ → ℕ → Outcome → Type 0
ByClause s area zero r = ByRun s area (run_answer s area (s.bound + 1)) r
ByClause s area (suc n) r = r ≡ Ok (Out (suc n))

-- by how the script ended over a judge
abbrev pub ByJudge : Result (Unit {0}) Stop → State → List ℕ → ℕ → Outcome → Type 0
ByJudge (Ok _) s area n r = ByClause s area n r
ByJudge (Err stop) s area n r = r ≡ Err (Script stop)

-- the script, run on a new job over a judge by the area
pub record Judged (text area : List ℕ) (r : Outcome) : Type 0 where
  pub result : Result (Unit {0}) Stop
  pub state : State
  pub start : Judge
  pub end : Judge
  pub new : NewJudge area start
  pub drove : DroveScript judge_model start text result end state
  pub told : ByJudge result state area (first_false (assigned area) 0 (clauses drove.script)) r

-- the area of an answer: the values of the job's variables, and zeros
abbrev pub area_of : ℕ → List ℕ → List ℕ
area_of v reply = area_after v (Ok verdict.Satisfiable) (model_of reply) (replicate 2112 0)

-- by what the answer says
abbrev pub ByVerdict : State → List ℕ → List ℕ → Result Verdict AnswerRefusal → Outcome → Type 0
ByVerdict s text reply (Ok verdict.Satisfiable) r = Judged text (area_of (highest s) reply) r
ByVerdict s text reply (Ok verdict.Unsatisfiable) r = r ≡ Ok Unsatisfiable
ByVerdict s text reply (Err e) r = r ≡ Err (Answer e)

-- by how the script ended over the writer
abbrev pub ByScript : Result (Unit {0}) Stop → State → List ℕ → List ℕ → Outcome → Type 0
ByScript (Ok _) s text reply r = ByVerdict s text reply (answer (highest s) reply 2112) r
ByScript (Err stop) s text reply r = r ≡ Err (Script stop)

-- the script, run on a new job over an empty writer to the work area, and the answer to its clauses
pub record Reported (work text reply : List ℕ) (r : Outcome) : Type 0 where
  pub result : Result (Unit {0}) Stop
  pub state : State
  pub start : Writer
  pub end : Writer
  pub new : NewWriter work start
  pub drove : DroveScript writer_model start text result end state
  pub told : ByScript result state text reply r
  -- where both runs of the script were accepted, both jobs know the same
  pub same : result ≡ Ok tt → (d : Judged text (area_of (highest state) reply) r) → d.result ≡ Ok tt → d.state ≡ state

-- the text of what came of it stands at the front of the output, and every byte behind it is as it was
pub record ToldOf (work text reply before after : List ℕ) (t : Told) : Type 0 where
  pub reported : Reported work text reply t.outcome
  pub bytes : after ≡ over before 0 (text_of t.outcome)
  pub size : t.bytes ≡ length (text_of t.outcome)
  pub fits : t.bytes ≤ 489
