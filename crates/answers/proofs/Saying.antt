-- The verdict and the literals of a text: proof of the law of what it says.
use Rattle.std.proofs.Common.{◌≡◌, ℕ, Bool, true, false, not, ◌&&◌, ◌||◌, eqb, List, [], ◌∷◌, ◌++◌, map, Some, sym, refl, ap, ◌∙◌, subst, inl, append-nil, arith}
use Rattle.std.specs.List.{AllByRecursion}
use Rattle.std.specs.Str.{bytes_eq}
use Rattle.std.proofs.ByRecursion.{All-append}
use Rattle.std.proofs.lemmas.Slice.Eq.{bytes_eq-Decides}
use Rattle.std.proofs.lemmas.Bool.{cond-true, cond-false, both_ways, and_parts, not-true, eqb-false, false_from_ne_true}
use Rattle.std.proofs.lemmas.List.{length-append}
use Rattle.cnf.specs.declared.clause.Literal.{Literal}
use Rattle.text.specs.Split.{lines, kept}
use Rattle.text.specs.Laws.{Free, blank_before}
use Rattle.text.proofs.Pieces.{lines_law}
use Rattle.answers.specs.declared.verdicts.Verdict.{Verdict}
use Rattle.answers.specs.declared.verdicts.Verdict.TheVariants.{Satisfiable, Unsatisfiable}
use Rattle.answers.specs.Answer.{verdict_line, is_status, verdict, first, later, model, verdict_of, model_of}
use Rattle.answers.specs.Grammar.{shown, v_line, nought, Follows, Begins, Says}
use Rattle.answers.specs.Laws.{SaysLaw, told, ToldLaw}
use Rattle.answers.proofs.Forms.{none_some, free_shown}
use Rattle.answers.proofs.Writings.{literals_law}

-- a verdict's line is read as that verdict
status_line : (w : Verdict) → is_status (verdict_line w) ≡ true
status_line Satisfiable = refl
status_line Unsatisfiable = refl

verdict_back : (w : Verdict) → verdict (verdict_line w) ≡ w
verdict_back Satisfiable = refl
verdict_back Unsatisfiable = refl

-- and no other line is
status_only : (l : List ℕ) → is_status l ≡ true → l ≡ verdict_line (verdict l)
status_only l e = at (bytes_eq l (verdict_line Satisfiable)) refl
  where
    second : (b d : Bool) → b ≡ false → (b || d) ≡ true → d ≡ true
    second true d q r = absurd (both_ways true q refl)
    second false d q r = r

    at : (b : Bool) → bytes_eq l (verdict_line Satisfiable) ≡ b → l ≡ verdict_line (verdict l)
    at true t =
        (bytes_eq-Decides l (verdict_line Satisfiable)).0 t
        ∙ ap verdict_line (sym (cond-true (bytes_eq l (verdict_line Satisfiable)) Satisfiable Unsatisfiable t))
    at false t =
        (bytes_eq-Decides l (verdict_line Unsatisfiable)).0 (second (bytes_eq l (verdict_line Satisfiable)) (bytes_eq l (verdict_line Unsatisfiable)) t e)
        ∙ ap verdict_line (sym (cond-false (bytes_eq l (verdict_line Satisfiable)) Satisfiable Unsatisfiable t))

pub begins : (text : List ℕ) → is_status (first (kept (lines text))) ≡ true → Begins text (verdict_of text)
begins text e = at (kept (lines text)) refl e
  where
    at : (ls : List (List ℕ)) → kept (lines text) ≡ ls → is_status (first ls) ≡ true → Begins text (verdict_of text)
    at [] q s = absurd (both_ways (is_status []) refl s)
    at (l ∷ ls) q s = (ls, q ∙ ap (λ x. x ∷ ls) (status_only l s) ∙ ap (λ k. verdict_line (verdict (first k)) ∷ ls) (sym q))

-- a line that is none of the two
pub no_status_line : (l : List ℕ) → (l ≡ verdict_line Satisfiable → ⊥) → (l ≡ verdict_line Unsatisfiable → ⊥) → is_status l ≡ false
no_status_line l s u = false_from_ne_true (is_status l) (λ e. one (verdict l) (status_only l e))
  where
    one : (w : Verdict) → l ≡ verdict_line w → ⊥
    one Satisfiable e = s e
    one Unsatisfiable e = u e

module _ (text : List ℕ) (w : Verdict) (b : Begins text w) where
  pub status_at : is_status (first (kept (lines text))) ≡ true
  status_at = ap (λ k. is_status (first k)) b.1 ∙ status_line w

  pub verdict_at : verdict_of text ≡ w
  verdict_at = ap (λ k. verdict (first k)) b.1 ∙ verdict_back w

  pub model_at : model_of text ≡ model w b.0
  model_at = ap (λ u. model u (later (kept (lines text)))) verdict_at ∙ ap (λ k. model w (later k)) b.1

follows : (w : Verdict) (ls : List (List ℕ)) (lits : List Literal) → model w ls ≡ Some lits → Follows w ls lits
follows Satisfiable ls lits e = (literals_law ls lits).0 e
follows Unsatisfiable [] lits e = (refl, cc)
follows Unsatisfiable (l ∷ ls) lits e = absurd (none_some lits e)

followed : (w : Verdict) (ls : List (List ℕ)) (lits : List Literal) → Follows w ls lits → model w ls ≡ Some lits
followed Satisfiable ls lits f = (literals_law ls lits).1 f
followed Unsatisfiable [] lits f = ap Some (sym f.1)
followed Unsatisfiable (l ∷ ls) lits f = absurd (cc)

pub said : (text : List ℕ) (w : Verdict) (lits : List Literal) → Begins text w → model_of text ≡ Some lits → Says text w lits
said text w lits b m = record { after = b.0; made = b.1; follows = follows w b.0 lits (sym (model_at text w b) ∙ m) }

abbrev pub starts : (text : List ℕ) (w : Verdict) (lits : List Literal) → Says text w lits → Begins text w
starts text w lits s = (s.after, s.made)

pub model-said : (text : List ℕ) (w : Verdict) (lits : List Literal) → Says text w lits → model_of text ≡ Some lits
model-said text w lits s = model_at text w (starts text w lits s) ∙ followed w s.after lits s.follows

pub says_law : SaysLaw
says_law text w lits = (
  λ p. said text w lits (subst (Begins text) p.1 (begins text p.0)) p.2,
  λ s. let b = starts text w lits s in (status_at text w b, verdict_at text w b, model-said text w lits s),
)

-- a text that is put together of its lines
abbrev lacks : ℕ → List ℕ → Bool
lacks mark [] = true
lacks mark (b ∷ bs) = not (eqb b mark) && lacks mark bs

free_by : (mark : ℕ) (bs : List ℕ) → lacks mark bs ≡ true → Free mark bs
free_by mark [] e = tt
free_by mark (b ∷ bs) e =
    let p = and_parts (not (eqb b mark)) (lacks mark bs) e in
    (eqb-false b mark (not-true (eqb b mark) p.0), free_by mark bs p.1)

free_blanks : (ws : List (List ℕ)) → AllByRecursion (Free 10) ws → Free 10 (blank_before ws)
free_blanks [] f = tt
free_blanks (w ∷ ws) f = All-append (λ b. b ≡ 10 → ⊥) (32 ∷ w) (blank_before ws) (λ z. omega (arith, z), f.0) (free_blanks ws f.1)

free_lines : (ns : List Literal) → AllByRecursion (Free 10) (verdict_line Satisfiable ∷ v_line ns ∷ [])
free_lines ns = (free_by 10 (verdict_line Satisfiable) refl, ((λ z. omega (arith, z), free_blanks (map shown ns) (free_shown 10 (omega arith) ns)), tt))

pub told_law : ToldLaw
told_law lits h =
    let ns = lits ++ nought ∷ [] in
    let ls = verdict_line Satisfiable ∷ v_line ns ∷ [] in
    record {
      after = v_line ns ∷ [];
      made = ap kept (lines_law.only (told lits) ls (free_lines ns) (inl refl));
      follows = record { groups = ns ∷ []; each_line = refl; each_some = (simp length-append (omega arith), tt); together = append-nil ns; no_zero = h };
    }
