-- The six questions and the meaning of their answers.
use Rattle.std.proofs.Common.{◌≡◌, ℕ, false, cond, leb, List, [], ◌∷◌, ◌++◌, length, drop, Some, None, Ok, Err, Option, Result, sym, refl, ap, ◌∙◌, subst}
use Rattle.std.proofs.lemmas.Bool.{cond-true, cond-false, cond_both, le-leb, lt-leb, leb-true, leb-false, both_ways, false_from_ne_true}
use Rattle.cnf.specs.Questions.{first_no}
use Rattle.cnf.specs.declared.clause.Literal.{Literal}
use Rattle.text.specs.Split.{lines, kept}
use Rattle.answers.specs.declared.verdicts.Verdict.{Verdict}
use Rattle.answers.specs.declared.verdicts.Verdict.TheVariants.{Satisfiable, Unsatisfiable}
use Rattle.answers.specs.declared.refusals.Refusal.{Refusal}
use Rattle.answers.specs.declared.refusals.Refusal.TheVariants.{TextLength, AreaLength, Status, Form, Variable, Missing}
use Rattle.answers.specs.Values.{fresh, complete, bytes}
use Rattle.answers.specs.Answer.{is_status, first, model, or_empty, model_asks, verdict_of, model_of, answer, area_after}
use Rattle.answers.specs.Grammar.{Begins, Says}
use Rattle.answers.specs.Meaning.{Fits, Means, MakesTrue, Satisfied}
use Rattle.answers.specs.Laws.{AnswerLaw}
use Rattle.answers.proofs.Forms.{none_some}
use Rattle.answers.proofs.Saying.{begins, status_at, verdict_at, said, starts, model-said}
use Rattle.answers.proofs.Values.{sound_law, total_law, values_law}

abbrev Answered : Type 0
Answered = Result Verdict Refusal

-- questions 46 to 48
abbrev last_three : ℕ → Verdict → Option (List Literal) → Answered
last_three v w o = first_no (model_asks v w o) w

-- questions 45 to 48
abbrev from_status : ℕ → List ℕ → Answered
from_status v text = cond (is_status (first (kept (lines text)))) (last_three v (verdict_of text) (model_of text)) (Err Status)

module _ (v : ℕ) (text : List ℕ) (room : ℕ) (fits : Fits v text room) where
  to_status : answer v text room ≡ from_status v text
  to_status =
      cond-true (leb (length text) 60000) (cond (leb v room) (from_status v text) (Err AreaLength)) (Err TextLength) (le-leb (length text) 60000 fits.0)
      ∙ cond-true (leb v room) (from_status v text) (Err AreaLength) (le-leb v room fits.1)

  pub no_status : is_status (first (kept (lines text))) ≡ false → answer v text room ≡ Err Status
  no_status e = to_status ∙ cond-false (is_status (first (kept (lines text)))) (last_three v (verdict_of text) (model_of text)) (Err Status) e

  to_model : (w : Verdict) → Begins text w → answer v text room ≡ last_three v w (model_of text)
  to_model w b =
      to_status
      ∙ cond-true (is_status (first (kept (lines text)))) (last_three v (verdict_of text) (model_of text)) (Err Status) (status_at text w b)
      ∙ ap (λ u. last_three v u (model_of text)) (verdict_at text w b)

  to_literals : (w : Verdict) (lits : List Literal) → Says text w lits → answer v text room ≡ last_three v w (Some lits)
  to_literals w lits s = to_model w (starts text w lits s) ∙ ap (last_three v w) (model-said text w lits s)

  -- from the questions to the meaning
  meant : (w : Verdict) (o : Option (List Literal)) → Begins text w → model_of text ≡ o → Means v text room (last_three v w o)
  meant w None b e = (fits, w, b, λ lits s. none_some lits (sym e ∙ model-said text w lits s))
  meant Satisfiable (Some lits) b e =
      let s = said text Satisfiable lits b e in
      cond_both (fresh v lits) (cond (complete v lits) (Ok Satisfiable) (Err Missing)) (Err Variable) (Means v text room)
      (λ f. cond_both (complete v lits) (Ok Satisfiable) (Err Missing) (Means v text room)
      (λ g. (fits, lits, s, (sound_law v lits).0 f, (total_law v lits).0 g))
      (λ g. (fits, lits, s, (sound_law v lits).0 f, λ t. both_ways (complete v lits) g ((total_law v lits).1 t))))
      (λ f. (fits, Satisfiable, lits, s, λ t. both_ways (fresh v lits) f ((sound_law v lits).1 t)))
  meant Unsatisfiable (Some lits) b e =
      let s = said text Unsatisfiable lits b e in
      cond_both (fresh v lits) (Ok Unsatisfiable) (Err Variable) (Means v text room)
      (λ f. (fits, subst (Says text Unsatisfiable) s.follows.1 s))
      (λ f. (fits, Unsatisfiable, lits, s, λ t. both_ways (fresh v lits) f ((sound_law v lits).1 t)))

  meant_status : Means v text room (from_status v text)
  meant_status =
      cond_both (is_status (first (kept (lines text)))) (last_three v (verdict_of text) (model_of text)) (Err Status) (Means v text room)
      (λ t. meant (verdict_of text) (model_of text) (begins text t) refl)
      (λ f. (fits, λ w b. both_ways (is_status (first (kept (lines text)))) f (status_at text w b)))

meaning : (v : ℕ) (text : List ℕ) (room : ℕ) → Means v text room (answer v text room)
meaning v text room =
    cond_both (leb (length text) 60000) (cond (leb v room) (from_status v text) (Err AreaLength)) (Err TextLength) (Means v text room)
    (λ few. cond_both (leb v room) (from_status v text) (Err AreaLength) (Means v text room)
    (λ low. meant_status v text room (leb-true (length text) 60000 few, leb-true v room low))
    (λ high. (leb-true (length text) 60000 few, leb-false v room high)))
    (λ many. leb-false (length text) 60000 many)

-- from the meaning to the answer
answered : (v : ℕ) (text : List ℕ) (room : ℕ) (r : Answered) → Means v text room r → answer v text room ≡ r
answered v text room (Err TextLength) m =
    cond-false (leb (length text) 60000) (cond (leb v room) (from_status v text) (Err AreaLength)) (Err TextLength) (lt-leb (length text) 60000 m)
answered v text room (Err AreaLength) m =
    cond-true (leb (length text) 60000) (cond (leb v room) (from_status v text) (Err AreaLength)) (Err TextLength) (le-leb (length text) 60000 m.0)
    ∙ cond-false (leb v room) (from_status v text) (Err AreaLength) (lt-leb v room m.1)
answered v text room (Err Status) m =
    no_status v text room m.0 (false_from_ne_true (is_status (first (kept (lines text)))) (λ t. m.1 (verdict_of text) (begins text t)))
answered v text room (Err Form) m =
    to_model v text room m.0 m.1 m.2 ∙ none (model_of text) refl
  where
    none : (o : Option (List Literal)) → model_of text ≡ o → last_three v m.1 o ≡ Err Form
    none None e = refl
    none (Some lits) e = absurd (m.3 lits (said text m.1 lits m.2 e))
answered v text room (Err Variable) m =
    to_literals v text room m.0 m.1 m.2 m.3
    ∙ cond-false (fresh v m.2) _ (Err Variable) (false_from_ne_true (fresh v m.2) (λ t. m.4 ((sound_law v m.2).0 t)))
answered v text room (Err Missing) m =
    to_literals v text room m.0 Satisfiable m.1 m.2
    ∙ cond-true (fresh v m.1) (cond (complete v m.1) (Ok Satisfiable) (Err Missing)) (Err Variable) ((sound_law v m.1).1 m.3)
    ∙ cond-false (complete v m.1) (Ok Satisfiable) (Err Missing) (false_from_ne_true (complete v m.1) (λ t. m.4 ((total_law v m.1).0 t)))
answered v text room (Ok Satisfiable) m =
    to_literals v text room m.0 Satisfiable m.1 m.2
    ∙ cond-true (fresh v m.1) (cond (complete v m.1) (Ok Satisfiable) (Err Missing)) (Err Variable) ((sound_law v m.1).1 m.3)
    ∙ cond-true (complete v m.1) (Ok Satisfiable) (Err Missing) ((total_law v m.1).1 m.4)
answered v text room (Ok Unsatisfiable) m = to_literals v text room m.0 Unsatisfiable [] m.1

pub answer_law : AnswerLaw
answer_law v text room r = (λ e. subst (Means v text room) e (meaning v text room), answered v text room r)

-- UNSATISFIABLE writes nothing, whatever follows it
pub area_kept : (v : ℕ) (ls : List (List ℕ)) (o : Option (List Literal)) (area : List ℕ) → area_after v (last_three v Unsatisfiable (model Unsatisfiable ls)) o area ≡ area
area_kept v [] o area = refl
area_kept v (l ∷ ls) o area = refl

-- the area after SATISFIABLE
pub satisfied : (v : ℕ) (text : List ℕ) (room : ℕ) (r : Answered) (before after : List ℕ) → Means v text room r → after ≡ area_after v r (model_of text) before → r ≡ Ok Satisfiable → Satisfied v text before after
satisfied v text room r before after m a e =
    let k = subst (Means v text room) e m in
    let filled : after ≡ bytes v k.1 ++ drop v before = a ∙ ap (λ x. area_after v x (model_of text) before) e ∙ ap (λ o. bytes v (or_empty o) ++ drop v before) (model-said text Satisfiable k.1 k.2) in
    (k.1, k.2, filled, subst (λ l. MakesTrue l k.1) (sym filled) (values_law.all_true v k.1 (drop v before) k.3))
