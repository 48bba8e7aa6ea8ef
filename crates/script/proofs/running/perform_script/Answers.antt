use Rattle.std.proofs.Common.{◌≡◌, ◌+◌, Err, rules, tests, ap, ◌∙◌}
use Rattle.std.proofs.lemmas.Result.{err_from_is_err_and}
use Rattle.std.specs.Iterator.Adapters.{enumerate_source, enumerate_count}
use Rattle.text.specs.Left.{lines_left}
use Rattle.script.proofs.LineByLine.{none_yet, one_more, all_done, stopped, went_on, ended_at}
use Rattle.script.proofs.running.perform_script.Goals as goal

pub loop-i-init : goal.loop-i-init
loop-i-init g c =
    let it = c.into_iter-i-iterator.ensures.into_iter_gives in
    none_yet g.S.Sink.model c.args.job.now c.args.script.now _ _ (ap enumerate_count it ∙ c.enumerate-i-items.ensures.count)
    (ap (λ x. lines_left (enumerate_source x)) it ∙ ap lines_left c.enumerate-i-items.ensures.source ∙ c.of.ensures.left)

pub loop-i-preserved : goal.loop-i-preserved
loop-i-preserved g c =
    let next = c.in-Some.ensures.steps in
    let accepted = went_on _ c.perform_line.result c.map_err.result c.map_err.ensures.cases c.in_ok-map_err.was in
    one_more g.S.Sink.model c.args.job.now c.args.script.now _ _ c.loop-i.job c.loop-i.invariant _ _ _ _ _ next.2 next.0 accepted c.perform_line.ensures

pub returns-in_err-map_err : goal.returns-in_err-map_err
returns-in_err-map_err g c =
    let next = c.in-Some.ensures.steps in
    let refused = ended_at _ c.perform_line.result c.map_err.result c.in_err-map_err.field-0.0 c.map_err.ensures.cases c.in_err-map_err.was in
    let stop : c.in_err-map_err.field-0.0 ≡ record { refusal = refused.0; line = c.in-Some.i + 1 } = search (rules, tests) in
    let told = err_from_is_err_and c.from_residual.result c.from_residual.ensures.1 in
    stopped g.S.Sink.model c.args.job.now c.args.script.now _ _ c.loop-i.job c.loop-i.invariant c.in-Some.i _ _ _ _ _ _ next.1 next.0 refused.1 c.perform_line.ensures (told.1 ∙ ap Err (told.2 ∙ stop))

pub returns : goal.returns
returns g c = all_done g.S.Sink.model c.args.job.now c.args.script.now _ _ c.loop-i.job c.loop-i.invariant c.in-None.ensures.steps.0.0
