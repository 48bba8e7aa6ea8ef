use Rattle.std.proofs.Common.{sym, subst}
use Rattle.std.proofs.lemmas.Result.{err_from_is_err_and}
use Rattle.mtl.specs.Shapes.{unit}
use Rattle.mtl.specs.Statements.{Takes}
use Rattle.job.specs.Calls.{require_list, with_requirement}
use Rattle.job.specs.Feeding.{Fits, TakenAll}
use Rattle.job.specs.Steps.{known}
use Rattle.job.proofs.Limits.{limits_fit}
use Rattle.job.proofs.Placing.{require_takes}
use Rattle.job.proofs.Finishing.{finished, not_finished}
use Rattle.job.proofs.job.Job.keep.Goals as goal

pub hand_unit-requires : goal.hand_unit-requires
hand_unit-requires g c =
    let m = g.S.Sink.model in
    let j = c.args.self.now in
    let s = known j in
    let q = c.args.requirement in
    let takes = subst (λ n. Takes n (require_list s q)) (sym c.highest.ensures.value) (require_takes s q c.requires.begun c.requires.there c.requires.inside) in
    subst (λ p. Fits m (unit p) j.sink) (sym c.literal-literal.ensures)
    (limits_fit m j.sink (require_list s q) c.of_unit-cost.result c.highest.result (c.of_unit-cost.ensures _) c.in_ok-ask_limits.ensures takes)

pub returns-in_err-ask_limits : goal.returns-in_err-ask_limits
returns-in_err-ask_limits g c =
    let p = err_from_is_err_and c.from_residual.result c.from_residual.ensures.1 in
    let j = c.args.self.now in
    let s = known j in
    rw (p.1, p.2) (not_finished g.S.Sink.model j (require_list s c.args.requirement) (with_requirement s c.args.requirement) _ c.of_unit-cost.result c.highest.result (c.of_unit-cost.ensures _) c.highest.ensures.value c.in_err-ask_limits.field-0.0 c.in_err-ask_limits.ensures)

pub returns : goal.returns
returns g c =
    let m = g.S.Sink.model in
    let j = c.args.self.now in
    let s = known j in
    let taken = subst (λ p. TakenAll m (unit p) j.sink c.hand_unit.new.sink) c.literal-literal.ensures c.hand_unit.ensures in
    finished m j (require_list s c.args.requirement) (with_requirement s c.args.requirement) _ c.of_unit-cost.result c.highest.result (c.of_unit-cost.ensures _) c.highest.ensures.value _ c.in_ok-ask_limits.ensures c.keep.ensures taken
