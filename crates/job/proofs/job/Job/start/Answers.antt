use Rattle.std.proofs.Common.{sym, subst}
use Rattle.std.proofs.lemmas.Result.{err_from_is_err_and}
use Rattle.mtl.specs.Statements.{Takes}
use Rattle.mtl.specs.Lists.{begin}
use Rattle.job.specs.Calls.{with_bound}
use Rattle.job.specs.Steps.{known}
use Rattle.job.proofs.Limits.{limits_fit}
use Rattle.job.proofs.Placing.{begin_takes}
use Rattle.job.proofs.Finishing.{finished, not_finished}
use Rattle.job.proofs.job.Job.start.Goals as goal

pub hand_begin-requires : goal.hand_begin-requires
hand_begin-requires g c =
    let m = g.S.Sink.model in
    let j = c.args.self.now in
    let takes = subst (λ n. Takes n (begin c.args.k)) (sym c.highest_at.ensures) (begin_takes (known j) c.args.k) in
    record {
      room = limits_fit m j.sink (begin c.args.k) c.of_begin-cost.result c.highest_at.result c.of_begin-cost.ensures c.in_ok-ask_limits.ensures takes;
      low = c.requires;
    }

pub returns-in_err-ask_limits : goal.returns-in_err-ask_limits
returns-in_err-ask_limits g c =
    let p = err_from_is_err_and c.from_residual.result c.from_residual.ensures.1 in
    let j = c.args.self.now in
    rw (p.1, p.2) (not_finished g.S.Sink.model j (begin c.args.k) (with_bound (known j) c.args.k) _ c.of_begin-cost.result c.highest_at.result c.of_begin-cost.ensures c.highest_at.ensures c.in_err-ask_limits.field-0.0 c.in_err-ask_limits.ensures)

pub returns : goal.returns
returns g c =
    let j = c.args.self.now in
    finished g.S.Sink.model j (begin c.args.k) (with_bound (known j) c.args.k) _ c.of_begin-cost.result c.highest_at.result c.of_begin-cost.ensures c.highest_at.ensures _ c.in_ok-ask_limits.ensures c.open.ensures c.hand_begin.ensures
