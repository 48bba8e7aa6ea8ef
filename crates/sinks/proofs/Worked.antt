-- The worked cases of lines and of free cells.
use Rattle.std.proofs.Common.{◌≡◌, true, false, is_ok, Ok, Err, Result, sym, refl, ⊎_elim, arith}
use Rattle.std.proofs.lemmas.Fmt.{decimal_digit}
use Rattle.std.proofs.lemmas.Bool.{cases_Bool, true≢false, and_from}
use Rattle.cnf.specs.Clauses.{Clause, within}
use Rattle.cnf.specs.Refusals.{verdict}
use Rattle.cnf.specs.declared.refusal.Refusal.{Refusal}
use Rattle.cnf.proofs.Accepting.{accepted}
use Rattle.sinks.specs.Theorems.{Cases}

ok_is : (r : Result (Unit {0}) Refusal) → is_ok r ≡ true → r ≡ Ok tt
ok_is (Ok u) e = refl
ok_is (Err x) e = absurd (true≢false (sym e))

-- a clause wants two cells at least
eleven : (c : Clause) → is_ok (verdict 40 9999 1 c) ≡ false
eleven c =
    ⊎_elim (λ e. let a = accepted 40 9999 1 c (ok_is (verdict 40 9999 1 c) e) in let z : ⊥ = omega arith in absurd z) (λ e. e)
    (cases_Bool (is_ok (verdict 40 9999 1 c)))

pub cases : Cases
cases = record {
  switched = simp (decimal_digit 9 (omega arith), decimal_digit 5 (omega arith), decimal_digit 6 (omega arith));
  eleven = eleven;
  twelve = λ l w. rw (and_from (within 9999 l) true w refl);
}
