-- The variables of a job.
use Rattle.std.specs.Prelude.{ℕ}
use Rattle.job.specs.declared.state.Setup.{Setup}
use Rattle.job.specs.Calls.{highest}
use Rattle.job.specs.States.{state_of}

-- they are 1 to this number, which is 0 before begin
abbrev pub variables : Setup → ℕ
variables setup = highest (state_of setup)
