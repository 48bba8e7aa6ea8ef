use Rattle.std.proofs.Common.{length, get_or, ap, arith}
use Rattle.std.proofs.lemmas.Bool.{eqb-true, eqb-false}
use Rattle.std.proofs.lemmas.Slice.Eq.{text_from_reads}
use Rattle.answers.proofs.Saying.{no_status_line}
use Rattle.answers.proofs.verdicts.Verdict.of_line.Goals as goal

pub returns-in-115 : goal.returns-in-115
returns-in-115 c = text_from_reads _ _ (omega arith) (omega (arith, eqb-true), (omega (arith, eqb-true), (omega (arith, eqb-true), (omega (arith, eqb-true), (omega (arith, eqb-true), (omega (arith, eqb-true), (omega (arith, eqb-true), (omega (arith, eqb-true), (omega (arith, eqb-true), (omega (arith, eqb-true), (omega (arith, eqb-true), (omega (arith, eqb-true), (omega (arith, eqb-true), tt)))))))))))))

pub returns-in-115-2 : goal.returns-in-115-2
returns-in-115-2 c = text_from_reads _ _ (omega arith) (omega (arith, eqb-true), (omega (arith, eqb-true), (omega (arith, eqb-true), (omega (arith, eqb-true), (omega (arith, eqb-true), (omega (arith, eqb-true), (omega (arith, eqb-true), (omega (arith, eqb-true), (omega (arith, eqb-true), (omega (arith, eqb-true), (omega (arith, eqb-true), (omega (arith, eqb-true), (omega (arith, eqb-true), (omega (arith, eqb-true), (omega (arith, eqb-true), tt)))))))))))))))

pub returns-in_default-4 : goal.returns-in_default-4
returns-in_default-4 c = no_status_line c.args.line.now (λ e. omega (arith, eqb-false, ap (λ l. get_or l 10 0) e)) (λ e. omega (arith, ap length e))

pub returns-in_default-18 : goal.returns-in_default-18
returns-in_default-18 c = no_status_line c.args.line.now (λ e. omega (arith, ap length e)) (λ e. omega (arith, eqb-false, ap (λ l. get_or l 12 0) e))
