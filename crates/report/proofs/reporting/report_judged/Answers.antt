use Rattle.std.proofs.Common.{Err, sym, ap, ◌∙◌, arith}
use Rattle.std.proofs.lemmas.Result.{err_from_is_err_and}
use Rattle.report.proofs.Verdicts.{shows, asked, told_stop, told_out, told_run}
use Rattle.report.proofs.reporting.report_judged.Goals as goal

pub returns-in_err-outcome : goal.returns-in_err-outcome
returns-in_err-outcome c =
    let told = err_from_is_err_and c.from_residual.result c.from_residual.ensures.1 in
    told_stop c.new.ensures c.drive_script.ensures _ c.from_residual.result c.in_err-outcome.was (told.1 ∙ ap Err told.2)

pub report_run-requires : goal.report_run-requires
report_run-requires c = record {
  shows = shows c.new.ensures c.drive_script.ensures (sym c.first_false.ensures.number ∙ c.in-0.is);
  asked = asked c.new.ensures c.drive_script.ensures;
}

pub returns-in-0 : goal.returns-in-0
returns-in-0 c = told_run c.new.ensures c.drive_script.ensures c.first_false.result c.report_run.result c.in_ok-outcome.was c.first_false.ensures.number c.in-0.is c.report_run.ensures

pub returns-in_default : goal.returns-in_default
returns-in_default c = told_out c.new.ensures c.drive_script.ensures c.first_false.result c.in_ok-outcome.was c.first_false.ensures.number (omega arith)
