use Rattle.std.proofs.Common.{refl}
use Rattle.frames.proofs.theorems.cases_stand.Goals as goal

pub returns : goal.returns
returns c = record {
  begun = refl;
  wrong_sum = refl;
  wrong_sum_number = refl;
  lower_case = refl;
  run_in_script = refl;
  begin_too_long = refl;
  run_written = refl;
  letter_written = refl;
}
