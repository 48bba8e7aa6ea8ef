use Rattle.std.proofs.Common.{◌++◌, refl, ap, ◌∙◌}
use Rattle.job.specs.States.{state_of}
use Rattle.report.proofs.RunShown.{run_told}
use Rattle.report.proofs.reporting.report_run.Goals as goal

pub returns : goal.returns
returns c =
    let setup = c.args.setup.now in
    let letters = c.run.new.letters in
    run_told (state_of setup) c.args.area.now _ _ letters _ c.in_ok-start.ensures.answer refl (c.extend.ensures ∙ ap (λ xs. xs ++ letters) c.new-shown.ensures) c.run.auto.letters setup.table.lawful c.requires.asked c.requires.shows c.in_ok-start.ensures.wrote _ refl
