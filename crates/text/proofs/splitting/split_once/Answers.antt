use Rattle.std.proofs.Common.{sym, arith}
use Rattle.text.proofs.Splits.{cut_at, whole}
use Rattle.text.proofs.splitting.split_once.Goals as goal

pub returns-in_err-i : goal.returns-in_err-i
returns-in_err-i c = rw c.from_residual.ensures (whole c.args.mark c.args.bytes.now (sym c.in_err-i.ensures))

pub returns : goal.returns
returns c = cut_at c.args.mark c.args.bytes.now c.in_ok-i.i _ (sym c.in_ok-i.ensures) (omega arith)
