-- The worked cases, and that a row is the one of its fields.
use Rattle.std.proofs.Common.{◌≡◌, zero, suc, true, false, [], ◌∷◌, sym, refl, ◌∙◌, subst, arith}
use Rattle.std.proofs.lemmas.Bool.{true≢false}
use Rattle.mtl.specs.declared.row.Row.TheVariants.{Signal, Not, And, Or, Next, Until, Release, After, Within, Throughout, Previous, WeakPrevious, Since, Trigger, Ago, Lately, Steadily}
use Rattle.mtl.specs.Formula.{Sat, signal}
use Rattle.mtl.specs.Runs.{word, lasso, Closed}
use Rattle.mtl.specs.Cases.{Cases, on_at}
use Rattle.mtl.specs.Fields.{Fields}
use Rattle.mtl.proofs.Lasso.{lasso_le, lasso_ge}

pub cases : Cases
cases = record {
  six_clauses = refl;
  unsettled = λ s. true≢false (sym ((s.1 1 (omega arith) (omega arith)).1 refl));
  settled = ((tt, tt), only);
  always = λ w h s. true≢false (sym ((s.1 1 (omega arith) (omega arith)).1 (0, omega arith, h 0, λ m a b. absurd (omega arith))));
  at_once = λ w f i. ((λ h. let e : h.0 ≡ i = omega arith in subst (λ j. Sat w f j) e h.3), λ p. (i, omega arith, omega arith, p));
  around = λ letters. ((λ h. h), λ h. h);
  circling = λ k l letters in' a b u. true≢false (sym u.2 ∙ b (lasso k l u.0) (lasso_ge k l in' u.0 (omega arith)) (lasso_le k l in' u.0));
  highest = refl;
  too_high = refl;
}
  where
    only : Closed 2 2 1 false (Sat (word 2 2 (on_at (false ∷ true ∷ true ∷ []))) (signal 0))
    only zero c d = absurd (omega arith)
    only (suc zero) c d = ((λ _. refl), λ _. refl)
    only (suc (suc j)) c d = absurd (omega arith)

pub fields : Fields
fields (Signal a) = refl
fields (Not a) = refl
fields (And a b) = refl
fields (Or a b) = refl
fields (Next a) = refl
fields (Until a b) = refl
fields (Release a b) = refl
fields (After a t) = refl
fields (Within a t) = refl
fields (Throughout a t) = refl
fields (Previous a) = refl
fields (WeakPrevious a) = refl
fields (Since a b) = refl
fields (Trigger a b) = refl
fields (Ago a t) = refl
fields (Lately a t) = refl
fields (Steadily a t) = refl
