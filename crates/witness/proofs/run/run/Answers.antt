use Rattle.std.proofs.Common.{◌≡◌, length, rules}
use Rattle.sinks.specs.Models.{assigned}
use Rattle.job.specs.States.{state_of}
use Rattle.witness.specs.Shown.{run_answer, LettersShown}
use Rattle.witness.proofs.Coming.{passed_run, is_run, refused_result}
use Rattle.witness.proofs.run.run.Goals as goal

pub returns-in_err-start-clause-shows : goal.returns-in_err-start-clause-shows
returns-in_err-start-clause-shows c =
    let s = state_of c.args.setup.now in
    let area = c.args.area.now in
    let e : c.from_residual.result ≡ run_answer s area (length c.args.letters.now) = search rules in
    refused_result s area (length c.args.letters.now) c.args.letters.now c.from_residual.result c.from_residual.ensures.0 e

pub returns-clause-shows : goal.returns-clause-shows
returns-clause-shows c =
    let s = state_of c.args.setup.now in
    let area = c.args.area.now in
    let letters = c.write_letters.new.letters in
    let p = passed_run s area (length c.args.letters.now) c.in_ok-start.start c.in_ok-start.ensures in
    let w : LettersShown s.bound (assigned area) s.rows letters = search rules in
    is_run s.bound s.rows (assigned area) c.args.setup.now.table.lawful c.in_ok-start.start letters p.start w
