use Rattle.std.proofs.Common.{◌≡◌, ℕ, ◌^◌, ◌<◌, ◌≤◌, List, length, arith}
use Rattle.report.specs.Texts.{notice_text}
use Rattle.report.proofs.Lengths.{refusal_short}
use Rattle.report.proofs.telling.tell_refused.Goals as goal

-- whatever number and line are told
room : (number line : ℕ) (output : List ℕ) → number < 2 ^ 32 → line < 2 ^ 64 → length output ≡ 489 → length (notice_text number line) ≤ length output
room number line output h k e = omega (arith, refusal_short number line h k, e)

short : (number line n : ℕ) → number < 2 ^ 32 → line < 2 ^ 64 → n ≡ length (notice_text number line) → n ≤ 489
short number line n h k e = omega (arith, refusal_short number line h k, e)

pub put_pair-requires : goal.put_pair-requires
put_pair-requires c = room _ _ _ (omega arith) (omega arith) c.told-output

pub returns-clause-fits : goal.returns-clause-fits
returns-clause-fits c = short c.from.result _ _ (omega arith) (omega arith) c.put_pair.ensures.end
