use Rattle.std.proofs.Common.{sym, ap, ◌∙◌}
use Rattle.text.specs.Split.{lines, kept}
use Rattle.answers.specs.Answer.{area_after, model_of}
use Rattle.answers.proofs.Meanings.{area_kept}
use Rattle.answers.proofs.reading.read_for.Goals as goal

pub returns-in-Unsatisfiable-clause-written : goal.returns-in-Unsatisfiable-clause-written
returns-in-Unsatisfiable-clause-written c =
    let v = c.args.highest in
    let area = c.args.area.now in
    let o = model_of c.args.text.now in
    sym (ap (λ r. area_after v r o area) (c.read_no_values.ensures v) ∙ area_kept v (kept (lines c.in_ok-first.rest.now)) o area)
