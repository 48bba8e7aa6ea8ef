-- What a script over a judge, and over a writer, comes to.
use Rattle.std.proofs.Common.{◌≡◌, ℕ, zero, suc, ◌+◌, ◌<◌, true, List, length, unwrap_or, Ok, Err, Result, sym, refl, ap, ◌∙◌, subst, arith}
use Rattle.std.proofs.lemmas.Bool.{eq-eqb}
use Rattle.sinks.specs.declared.judge.Judge.{Judge}
use Rattle.sinks.specs.declared.writer.Writer.{Writer}
use Rattle.sinks.specs.Models.{writer_model, NewWriter, judge_model, NewJudge, assigned}
use Rattle.mtl.specs.Tables.{Asked}
use Rattle.job.specs.Calls.{State, fresh, highest}
use Rattle.job.specs.Bottoms.{first_false}
use Rattle.job.specs.Runs.{Shows}
use Rattle.job.proofs.Bottoms.{judged_first}
use Rattle.job.proofs.RunLaws.{ran_good, good_fresh}
use Rattle.script.specs.declared.refusal.Stop.{Stop}
use Rattle.script.specs.Scripts.{clauses, ScriptRan, DroveScript}
use Rattle.script.proofs.Sameness.{same_script}
use Rattle.answers.specs.Answer.{answer}
use Rattle.witness.specs.Shown.{run_answer}
use Rattle.report.specs.declared.outcome.Report.TheVariants.{Out}
use Rattle.report.specs.declared.refusal.Refusal.TheVariants.{Script}
use Rattle.report.specs.Reports.{Outcome, ByRun, ByClause, ByJudge, Judged, area_of, ByVerdict, ByScript, Reported}

by_out : (s : State) (area : List ℕ) (n : ℕ) → 0 < n → ByClause s area n (Ok (Out n))
by_out s area zero h = let z : ⊥ = omega arith in absurd z
by_out s area (suc n) h = refl

module _ {text area : List ℕ} {result : Result (Unit {0}) Stop} {j k : Judge} {s : State} (new : NewJudge area j) (d : DroveScript judge_model j text result k s) where
  pub shows : unwrap_or k.fault 0 ≡ 0 → s.begun ≡ true → Shows s (assigned area)
  shows e b =
      let watched : judge_model.watched j (assigned area) = λ v _ _. ap (λ x. assigned x v) (sym new.bytes) in
      ((d.promise.inside (assigned area) watched).0 (k.numbered ∙ eq-eqb _ 0 e)).1 b

  pub asked : Asked s.bound (length s.rows) s.kept
  asked = (ran_good judge_model d.script.ran good_fresh).asked

  judged : (r : Outcome) → ByJudge result s area (first_false (assigned area) 0 (clauses d.script)) r → Judged text area r
  judged r told = record { result = result; state = s; start = j; end = k; new = new; drove = d; told = told }

  pub told_stop : (stop : Stop) (r : Outcome) → result ≡ Err stop → r ≡ Err (Script stop) → Judged text area r
  told_stop stop r e is = judged r (subst (λ x. ByJudge x s area (first_false (assigned area) 0 (clauses d.script)) r) (sym e) is)

  told_clause : (n : ℕ) (r : Outcome) → result ≡ Ok tt → n ≡ unwrap_or k.fault 0 → ByClause s area n r → Judged text area r
  told_clause n r e f by =
      judged r (subst (λ x. ByJudge x s area (first_false (assigned area) 0 (clauses d.script)) r) (sym e)
      (subst (λ m. ByClause s area m r) (f ∙ judged_first (clauses d.script) area j k new d.promise.taken.steps) by))

  pub told_out : (n : ℕ) → result ≡ Ok tt → n ≡ unwrap_or k.fault 0 → 0 < n → Judged text area (Ok (Out n))
  told_out n e f h = told_clause n (Ok (Out n)) e f (by_out s area n h)

  pub told_run : (n : ℕ) (r : Outcome) → result ≡ Ok tt → n ≡ unwrap_or k.fault 0 → n ≡ 0 → ByRun s area (run_answer s area (s.bound + 1)) r → Judged text area r
  told_run n r e f z by = told_clause n r e f (subst (λ m. ByClause s area m r) (sym z) by)

module _ {work text : List ℕ} {result : Result (Unit {0}) Stop} {w v : Writer} {s : State} (reply : List ℕ) (new : NewWriter work w) (d : DroveScript writer_model w text result v s) where
  same_state : (r : Outcome) → result ≡ Ok tt → (g : Judged text (area_of (highest s) reply) r) → g.result ≡ Ok tt → g.state ≡ s
  same_state r e g f =
      (same_script writer_model judge_model w v g.start g.end text s g.state
      (subst (λ x. ScriptRan writer_model w fresh text x v s) e d.script) (subst (λ x. ScriptRan judge_model g.start fresh text x g.end g.state) f g.drove.script)).2

  reported : (r : Outcome) → ByScript result s text reply r → Reported work text reply r
  reported r told = record { result = result; state = s; start = w; end = v; new = new; drove = d; told = told; same = same_state r }

  pub script_stopped : (stop : Stop) (r : Outcome) → result ≡ Err stop → r ≡ Err (Script stop) → Reported work text reply r
  script_stopped stop r e is = reported r (subst (λ x. ByScript x s text reply r) (sym e) is)

  pub script_accepted : (r : Outcome) → result ≡ Ok tt → ByVerdict s text reply (answer (highest s) reply 2112) r → Reported work text reply r
  script_accepted r e by = reported r (subst (λ x. ByScript x s text reply r) (sym e) by)
