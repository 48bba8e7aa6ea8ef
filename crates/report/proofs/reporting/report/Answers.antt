use Rattle.std.proofs.Common.{Err, sym, ap, ◌∙◌}
use Rattle.std.proofs.lemmas.Result.{err_from_is_err_and}
use Rattle.script.proofs.Filing.{same_name}
use Rattle.report.proofs.Verdicts.{script_stopped, script_accepted}
use Rattle.report.proofs.reporting.report.Goals as goal

pub shape_of-work : goal.shape_of-work
shape_of-work c = sym c.new-writer.ensures.name ∙ sym (same_name c.drive_script_lent-outcome.ensures)

pub returns-in_err-outcome : goal.returns-in_err-outcome
returns-in_err-outcome c =
    let told = err_from_is_err_and c.from_residual.result c.from_residual.ensures.1 in
    script_stopped c.args.reply.now c.new-writer.ensures.new c.drive_script_lent-outcome.ensures _ c.from_residual.result c.in_err-outcome.was (told.1 ∙ ap Err told.2)

pub returns : goal.returns
returns c = script_accepted c.args.reply.now c.new-writer.ensures.new c.drive_script_lent-outcome.ensures c.report_answer.result c.in_ok-outcome.was c.report_answer.ensures
