use Rattle.std.proofs.Common.{◌≡◌, Err, ap, ◌∙◌}
use Rattle.std.proofs.lemmas.Result.{err_from_is_err_and}
use Rattle.frames.specs.Held.{held}
use Rattle.frames.specs.Script.{call_asks, call_in, calling}
use Rattle.frames.proofs.Framing.{asked_framed, asked_refused}
use Rattle.frames.proofs.Calling.{call_made}
use Rattle.frames.proofs.scripts.call_of.Goals as goal

pub returns : goal.returns
returns c =
    let line = c.args.line.now in
    let v : c.call_in.result ≡ calling line = c.call_in.ensures ∙ asked_framed call_asks call_in line (held c.in_ok-frame.frame) c.in_ok-frame.ensures in
    record { value = v; back = call_made line _ v }

pub returns-in_err-frame-clause-value : goal.returns-in_err-frame-clause-value
returns-in_err-frame-clause-value c =
    let p = err_from_is_err_and c.from_residual.result c.from_residual.ensures.1 in
    p.1 ∙ ap Err p.2 ∙ asked_refused call_asks call_in c.args.line.now _ c.in_err-frame.ensures
