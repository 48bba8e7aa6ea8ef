-- Some lines and their answers.
use Rattle.std.specs.Prelude.{◌≡◌, Ok, Err, codes}
use Rattle.frames.specs.declared.refusals.Refusal.TheVariants.{Digits, Sum, Kind, Length}
use Rattle.calls.specs.declared.Call.TheVariants.{Begin}
use Rattle.frames.specs.Layouts.{run_layout, letter_layout}
use Rattle.frames.specs.Numbers.{number}
use Rattle.frames.specs.Script.{calling}
use Rattle.frames.specs.Written.{written}

pub record Cases : Type 0 where
  pub begun : calling (codes "B00050") ≡ Ok (Begin (record { bound = 0 }))
  pub wrong_sum : calling (codes "B00051") ≡ Err Sum
  pub wrong_sum_number : number Sum ≡ 2
  pub lower_case : calling (codes "b00050") ≡ Err Digits
  pub run_in_script : calling (codes "A0000060") ≡ Err Kind
  pub begin_too_long : calling (codes "B00000000050") ≡ Err Length
  pub run_written : written run_layout (record { bound = 0; start = 0 }) ≡ codes "A0000060"
  pub letter_written : written letter_layout (record { instant = 0; signals = 1 }) ≡ codes "C000000000013F"
