use Rattle.std.proofs.Common.{◌≡◌, ℕ, ◌+◌, ◌*◌, List, reverse, length, Ok, Err, sym, ap, ◌∙◌, subst, arith, rules}
use Rattle.mtl.specs.declared.row.Row.{Row}
use Rattle.mtl.specs.Lists.{top}
use Rattle.mtl.specs.Tables.{lawful}
use Rattle.job.specs.States.{state_of}
use Rattle.evaluate.specs.Truths.{Evaluated}
use Rattle.witness.specs.Fills.{Answer, FillAnswer}
use Rattle.witness.proofs.Filling.{asked, passed, highest_begun, Done, filled, of_same}
use Rattle.witness.proofs.fill.fill.Goals as goal

pub returns-in_err-run-clause-answer : goal.returns-in_err-run-clause-answer
returns-in_err-run-clause-answer c =
    let e : c.from_residual.result ≡ Err c.in_err-run.field-0.0 = search rules in
    subst (λ (r : Answer). FillAnswer (state_of c.args.setup.now) c.args.l c.args.letters.now (length c.args.area.now) (length c.args.work.now) r) (sym e) c.in_err-run.ensures.answer

pub evaluate-requires : goal.evaluate-requires
evaluate-requires c =
    let s = state_of c.args.setup.now in
    let asks = c.in_ok-run.ensures.answer in
    let p = passed s c.args.l c.args.letters.now asks.0 (length c.args.area.now) (length c.args.work.now) asks.2 in
    let e = c.as_slice-rows.ensures ∙ c.table-table.ensures in
    let work = ap (λ (rs : List Row). length rs * (c.in_ok-run.run'.lasso.bound + 1)) e ∙ ap (λ (n : ℕ). length s.rows * (n + 1)) c.in_ok-run.ensures.run.0 in
    (omega (arith, ap length c.as_slice-rows.ensures, c.len-count.ensures.value, c.len-count.ensures.few), ap lawful e ∙ c.args.setup.now.table.lawful, omega (arith, work, p.work_roomy))

pub write_area-requires : goal.write_area-requires
write_area-requires c =
    let s = state_of c.args.setup.now in
    let asks = c.in_ok-run.ensures.answer in
    let p = passed s c.args.l c.args.letters.now asks.0 (length c.args.area.now) (length c.args.work.now) asks.2 in
    let e = c.as_slice-rows.ensures ∙ c.table-table.ensures in
    let k = c.in_ok-run.run'.lasso.bound in
    let high = ap (λ (rs : List Row). top k (reverse rs)) e ∙ ap (λ (n : ℕ). top n (reverse s.rows)) c.in_ok-run.ensures.run.0 in
    record { sizes = (c.len-count.ensures.value ∙ sym (ap length c.as_slice-rows.ensures), ap lawful e ∙ c.args.setup.now.table.lawful, omega (arith, high, p.roomy, highest_begun s p.begun)) }

pub returns-clause-answer : goal.returns-clause-answer
returns-clause-answer c =
    let s = state_of c.args.setup.now in
    let asks = c.in_ok-run.ensures.answer in
    let e = c.as_slice-rows.ensures ∙ c.table-table.ensures in
    let done : Evaluated s.bound c.args.l c.args.letters.now s.rows c.evaluate.new.work =
    of_same (λ k l ls rs. Evaluated k l ls rs c.evaluate.new.work) c.in_ok-run.ensures.run e c.in_ok-evaluate.ensures in
    asked s c.args.l c.args.letters.now asks.0 (length c.args.area.now) (length c.args.work.now) asks.1 asks.2 (Ok tt) (λ _. done.settled)

pub returns-clause-wrote : goal.returns-clause-wrote
returns-clause-wrote c =
    let s = state_of c.args.setup.now in
    let asks = c.in_ok-run.ensures.answer in
    let p = passed s c.args.l c.args.letters.now asks.0 (length c.args.area.now) (length c.args.work.now) asks.2 in
    let e = c.as_slice-rows.ensures ∙ c.table-table.ensures in
    let before = c.args.area.now in
    let after = c.write_area.new.area in
    let work = c.evaluate.new.work in
    let done : Done work before after s.bound c.args.l c.args.letters.now s.rows =
    of_same (λ k l ls rs. Done work before after k l ls rs) c.in_ok-run.ensures.run e
    (record { evaluated = c.in_ok-evaluate.ensures; laid = c.write_area.ensures.laid; bits = c.write_area.ensures.bits; rest = c.write_area.ensures.rest }) in
    filled work before after s c.args.l c.args.letters.now p.begun p.inside c.args.setup.now.table.lawful done
