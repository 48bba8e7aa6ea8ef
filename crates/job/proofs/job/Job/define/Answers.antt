use Rattle.std.proofs.Common.{◌≡◌, ℕ, sym, subst}
use Rattle.std.proofs.lemmas.Result.{err_from_is_err_and}
use Rattle.calls.specs.declared.Call.TheVariants as call
use Rattle.calls.specs.declared.records.Define.{Define}
use Rattle.job.specs.Calls.{row_with, define_asks}
use Rattle.job.specs.Steps.{known, Adding}
use Rattle.job.proofs.Accepted.{all_yes, define_yes, FreshRow, step_goes_on, step_stops}
use Rattle.job.proofs.job.Job.define.Given as given
use Rattle.job.proofs.job.Job.define.Goals as goal
use Rattle.job.proofs.job.Job.define.Goals.{In_ok-row}

abbrev fields : ℕ → ℕ → ℕ → ℕ → Define
fields code a b t = record { code = code; a = a; b = b; t = t }

-- the row is the one of the fields
row_is : (g : given.Over) (c : In_ok-row g) → row_with (fields c.args.code c.args.a c.args.b c.args.t) ≡ c.in_ok-row.row
row_is g c = (all_yes (define_asks (known c.args.self.now) (fields c.args.code c.args.a c.args.b c.args.t)) _ _ (sym c.in_ok-row.ensures)).0

fresh_row : (g : given.Over) (c : In_ok-row g) → FreshRow (known c.args.self.now) c.in_ok-row.row
fresh_row g c =
    let s = known c.args.self.now in
    let yes = all_yes (define_asks s (fields c.args.code c.args.a c.args.b c.args.t)) _ _ (sym c.in_ok-row.ensures) in
    subst (λ r. FreshRow s r) yes.0 (define_yes s (fields c.args.code c.args.a c.args.b c.args.t) yes.1)

pub add_row-requires : goal.add_row-requires
add_row-requires g c =
    let f = fresh_row g (goal.at.add_row-requires g c).In_ok-row in
    record { begun = f.begun; room = f.room; fit = f.fit }

pub returns-in_err-row : goal.returns-in_err-row
returns-in_err-row g c =
    let p = err_from_is_err_and c.from_residual.result c.from_residual.ensures.1 in
    rw (p.1, p.2) (step_stops g.S.Sink.model c.args.self.now (call.Define (fields c.args.code c.args.a c.args.b c.args.t)) _ c.in_err-row.field-0.0 c.in_err-row.ensures)

pub returns : goal.returns
returns g c =
    let m = g.S.Sink.model in
    let j = c.args.self.now in
    step_goes_on m j (call.Define (fields c.args.code c.args.a c.args.b c.args.t)) _ _ _ _ c.in_ok-row.ensures
    (subst (λ r. Adding m j r c.add_row.result c.add_row.new.self) (sym (row_is g (goal.at.returns g c).In_ok-row)) c.add_row.ensures)
