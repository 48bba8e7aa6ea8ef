use Rattle.std.proofs.Common.{refl, arith}
use Rattle.std.proofs.lemmas.Bool.{ltb-true, eqb-false}
use Rattle.answers.proofs.Turns.{no_v_line}
use Rattle.answers.proofs.literals.numbers_of.Goals as goal
use Rattle.answers.proofs.literals.numbers_of.Goals.{in_default-via-then-line-lt2, in_default-via-else-line-lt2+in-118+in_default-1, in_default-via-else-line-lt2+in_default-1}

pub returns-in_default : goal.returns-in_default
returns-in_default c = (
  refl,
  no_v_line c.args.line.now (λ long v blank. elim c.in_default.branch [
    | in_default-via-then-line-lt2 w ↦ omega (arith, ltb-true)
    | in_default-via-else-line-lt2+in-118+in_default-1 w ↦ omega (arith, eqb-false)
    | in_default-via-else-line-lt2+in_default-1 w ↦ omega (arith, eqb-false)
  ]),
)
