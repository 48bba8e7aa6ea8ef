-- What is known of a clause that is not refused.
use Rattle.std.proofs.Common.{◌≡◌, ℕ, ◌+◌, ◌≤◌, true, length, Ok, arith}
use Rattle.std.proofs.lemmas.Bool.Decides.{nat_tests}
use Rattle.cnf.specs.Clauses.{Clause, in_range}
use Rattle.cnf.specs.Refusals.{verdict}

pub record Accepted (longest highest cells : ℕ) (c : Clause) : Type 0 where
  pub some : 1 ≤ length c
  pub short : length c ≤ longest
  pub ranged : in_range highest c ≡ true
  pub room : length c + 1 ≤ cells

pub accepted : (longest highest cells : ℕ) (c : Clause) → verdict longest highest cells c ≡ Ok tt → Accepted longest highest cells c
accepted longest highest cells c e = record { some = grind (arith, nat_tests); short = grind (arith, nat_tests); ranged = grind (arith, nat_tests); room = grind (arith, nat_tests) }
