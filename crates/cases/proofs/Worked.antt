-- The worked cases.
use Rattle.std.proofs.Common.{◌≡◌, ℕ, zero, suc, true, false, [], ◌∷◌, is_ok, Ok, Err, Result, sym, refl, ◌∙◌, subst, ⊎_elim, arith}
use Rattle.std.proofs.lemmas.Fmt.{decimal_digit}
use Rattle.std.proofs.lemmas.Bool.{cases_Bool, true≢false, and_from}
use Rattle.cnf.specs.Clauses.{Clause, within, asserted, negated}
use Rattle.cnf.specs.Refusals.{verdict}
use Rattle.cnf.specs.declared.refusal.Refusal.{Refusal}
use Rattle.cnf.proofs.Accepting.{accepted}
use Rattle.sinks.specs.Models.{LineFollows}
use Rattle.mtl.specs.Formula.{Sat, signal}
use Rattle.mtl.specs.Runs.{word, lasso, Closed}
use Rattle.mtl.proofs.Lasso.{lasso_le, lasso_ge}
use Rattle.cases.specs.Table.{Cases, on_at}

ok_is : (r : Result (Unit {0}) Refusal) → is_ok r ≡ true → r ≡ Ok tt
ok_is (Ok u) e = refl
ok_is (Err x) e = absurd (true≢false (sym e))

-- a clause wants two cells at least
eleven : (c : Clause) → is_ok (verdict 40 9999 1 c) ≡ false
eleven c =
    ⊎_elim (λ e. let a = accepted 40 9999 1 c (ok_is (verdict 40 9999 1 c) e) in let z : ⊥ = omega arith in absurd z) (λ e. e)
    (cases_Bool (is_ok (verdict 40 9999 1 c)))

pub cases : Cases
cases = record {
  read = refl;
  filed = simp (decimal_digit 1 (omega arith), decimal_digit 2 (omega arith), decimal_digit 3 (omega arith), decimal_digit 4 (omega arith), decimal_digit 6 (omega arith));
  bound_31 = refl;
  bound_32 = refl;
  eleventh = refl;
  unsettled = λ s. true≢false (sym ((s.1 1 (omega arith) (omega arith)).1 refl));
  settled = ((tt, tt), only);
  always = λ w h s. true≢false (sym ((s.1 1 (omega arith) (omega arith)).1 (0, omega arith, h 0, λ m a b. absurd (omega arith))));
  at_once = λ w f i. ((λ h. let e : h.0 ≡ i = omega arith in subst (λ j. Sat w f j) e h.3), λ p. (i, omega arith, omega arith, p));
  around = λ letters. ((λ h. h), λ h. h);
  circling = λ k l letters in' a b u. true≢false (sym u.2 ∙ b (lasso k l u.0) (lasso_ge k l in' u.0 (omega arith)) (lasso_le k l in' u.0));
  switched = λ s t e h. let P : ℕ → Type 0 = λ v. LineFollows (negated v ∷ asserted 5 ∷ negated 6 ∷ []) s.below t.below in subst P e h.0;
  its_line = simp (decimal_digit 9 (omega arith), decimal_digit 5 (omega arith), decimal_digit 6 (omega arith));
  eleven_bytes = eleven;
  twelve_bytes = λ l w. rw (and_from (within 9999 l) true w refl);
  wrong_sum = refl;
  second = refl;
}
  where
    only : Closed 2 2 1 false (Sat (word 2 2 (on_at (false ∷ true ∷ true ∷ []))) (signal 0))
    only zero c d = absurd (omega arith)
    only (suc zero) c d = ((λ _. refl), λ _. refl)
    only (suc (suc j)) c d = absurd (omega arith)
