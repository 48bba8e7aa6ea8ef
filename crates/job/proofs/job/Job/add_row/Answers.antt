use Rattle.std.proofs.Common.{length, Ok, sym, subst}
use Rattle.std.proofs.lemmas.Result.{err_from_is_err_and}
use Rattle.mtl.specs.Statements.{Takes}
use Rattle.job.specs.Calls.{define_list, with_row}
use Rattle.job.specs.Feeding.{Fits, TakenAll}
use Rattle.job.specs.declared.job.Job.{Job}
use Rattle.job.specs.declared.call.Reply.TheVariants as reply
use Rattle.job.specs.Steps.{known, Finishing}
use Rattle.job.proofs.Limits.{limits_fit}
use Rattle.job.proofs.Placing.{placed_is, near_row, row_takes}
use Rattle.job.proofs.Finishing.{finished, not_finished}
use Rattle.job.proofs.job.Job.add_row.Goals as goal

pub place-place-requires : goal.place-place-requires
place-place-requires g c = record { begun = c.requires.begun; near = near_row (known c.args.self.now) c.args.row c.requires.fit }

pub highest_with-requires : goal.highest_with-requires
highest_with-requires g c = record { begun = c.requires.begun; near = near_row (known c.args.self.now) c.args.row c.requires.fit }

pub hand_row-requires : goal.hand_row-requires
hand_row-requires g c =
    let m = g.S.Sink.model in
    let j = c.args.self.now in
    let s = known j in
    let r = c.args.row in
    let p = c.place-place.ensures in
    let is = placed_is s r c.place-place.result p in
    let takes = subst (λ n. Takes n (define_list s r)) (sym c.highest_with.ensures) (row_takes s r c.requires.begun c.requires.fit) in
    record {
      room = subst (λ cs. Fits m cs j.sink) (sym is) (limits_fit m j.sink (define_list s r) c.cost_of-cost.result c.highest_with.result c.cost_of-cost.ensures c.in_ok-ask_limits.ensures takes);
      near = near_row s r c.requires.fit;
    }

pub returns-in_err-ask_limits : goal.returns-in_err-ask_limits
returns-in_err-ask_limits g c =
    let p = err_from_is_err_and c.from_residual.result c.from_residual.ensures.1 in
    let j = c.args.self.now in
    let s = known j in
    rw (p.1, p.2) (not_finished g.S.Sink.model j (define_list s c.args.row) (with_row s c.args.row) _ c.cost_of-cost.result c.highest_with.result c.cost_of-cost.ensures c.highest_with.ensures c.in_err-ask_limits.field-0.0 c.in_err-ask_limits.ensures)

pub returns : goal.returns
returns g c =
    let m = g.S.Sink.model in
    let j = c.args.self.now in
    let s = known j in
    let r = c.args.row in
    let k : Job _ = record { sink = c.hand_row.new.sink; setup = c.add.new.self } in
    let taken = subst (λ cs. TakenAll m cs j.sink c.hand_row.new.sink) (placed_is s r c.place-place.result c.place-place.ensures) c.hand_row.ensures in
    subst (λ n. Finishing m j (define_list s r) (with_row s r) (reply.Row (length s.rows)) (Ok (reply.Row n)) k) (sym c.rows-number.ensures)
    (finished m j (define_list s r) (with_row s r) (reply.Row (length s.rows)) c.cost_of-cost.result c.highest_with.result c.cost_of-cost.ensures c.highest_with.ensures k c.in_ok-ask_limits.ensures c.add.ensures taken)
