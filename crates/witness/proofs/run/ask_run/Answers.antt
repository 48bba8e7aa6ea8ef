use Rattle.std.proofs.Common.{sym, ◌∙◌, arith}
use Rattle.job.specs.States.{state_of}
use Rattle.witness.proofs.Filling.{highest_least}
use Rattle.witness.proofs.run.ask_run.Goals as goal

pub find_start-requires : goal.find_start-requires
find_start-requires c =
    let h = highest_least (state_of c.args.setup.now) (sym c.is_begun.ensures ∙ c.if-not-is_begun.false) in
    (omega arith, omega (arith, h, c.bound-2.ensures.value, c.highest.ensures.value))
