use Rattle.std.proofs.Common.{◌+◌, ◌≤◌, length, Err, sym, ap, ◌∙◌, arith}
use Rattle.std.proofs.lemmas.List.{length-take-le}
use Rattle.std.proofs.lemmas.Result.{err_from_is_err_and}
use Rattle.script.specs.Files.{heading}
use Rattle.script.proofs.Filing.{same_name, lines_fit, front_short, refused, accepted}
use Rattle.script.proofs.file.make_file.Goals as goal
use Rattle.script.proofs.file.make_file.Goals.{After-count, After-text}

pub shape_of-work-in-Break-1 : goal.shape_of-work-in-Break-1
shape_of-work-in-Break-1 c = sym c.new-writer.ensures.name ∙ sym (same_name c.drive_script_lent-outcome.ensures)

pub returns-in_err-outcome-clause-filed : goal.returns-in_err-outcome-clause-filed
returns-in_err-outcome-clause-filed c =
    let p = err_from_is_err_and c.from_residual.result c.from_residual.ensures.1 in
    refused c.drive_script_lent-outcome.ensures c.args.work.now c.args.output.now c.new-writer.ensures.new _ c.from_residual.result c.in_err-outcome.was (p.1 ∙ ap Err p.2)

short : (c : After-count) → length (heading c.from-highest.result c.count.result) ≤ 17
short c =
    front_short c.drive_script_lent-outcome.ensures c.args.work.now c.args.output.now c.new-writer.ensures.new c.told-work c.from-highest.result c.count.result (omega (arith, c.from-highest.ensures, c.highest.ensures.bound)) c.count.ensures

pub put_pair-heading-requires : goal.put_pair-heading-requires
put_pair-heading-requires c = omega (arith, short c, c.told-output)

-- the file's length, where the lines are behind the heading
room : (c : After-text) → c.put_pair-heading.result + length c.text.result.now ≤ 60020
room c =
    let w = c.drive_script_lent-outcome.new.sink in
    let few = lines_fit c.drive_script_lent-outcome.ensures c.args.work.now c.args.output.now c.new-writer.ensures.new c.told-work in
    omega (arith, short (goal.at.put_bytes-requires c).After-count, ap length c.text.ensures, length-take-le w.used w.area.now w.written.0, few, c.put_pair-heading.ensures.end)

pub put_bytes-requires : goal.put_bytes-requires
put_bytes-requires c = omega (arith, room c, c.told-output)

pub shape_of-work : goal.shape_of-work
shape_of-work c = sym c.new-writer.ensures.name ∙ sym (same_name c.drive_script_lent-outcome.ensures)

pub returns : goal.returns
returns c = record {
  filed = accepted c.drive_script_lent-outcome.ensures c.args.work.now c.args.output.now c.new-writer.ensures.new c.from-highest.result c.count.result c.put_pair-heading.result c.put_bytes.result c.put_pair-heading.new.area c.put_bytes.new.area c.text.result.now c.in_ok-outcome.was (c.from-highest.ensures ∙ c.highest.ensures.value) c.count.ensures c.put_pair-heading.ensures.area c.put_pair-heading.ensures.end c.text.ensures c.put_bytes.ensures.area c.put_bytes.ensures.end;
  fits = omega (arith, room (goal.at.returns c).After-text, c.put_bytes.ensures.end);
}
