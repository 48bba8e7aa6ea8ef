use Rattle.std.proofs.Common.{refl, sym, arith, length}
use Rattle.std.proofs.lemmas.Bool.{eqb-false}
use Rattle.text.proofs.Splits.{first_line}
use Rattle.text.proofs.splitting.split_line.Goals as goal

pub returns : goal.returns
returns c =
    rw c.or.ensures
    (first_line c.args.text.now c.split_once.result _ refl refl (omega (arith, eqb-false (length c.args.text.now) 0 (sym c.if-is_empty.ensures))) c.split_once.ensures)
