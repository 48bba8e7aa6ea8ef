use Rattle.std.proofs.Common.{◌≡◌, Err, ap, ◌∙◌}
use Rattle.std.proofs.lemmas.Result.{err_from_is_err_and}
use Rattle.frames.specs.Held.{held}
use Rattle.frames.specs.Lines.{kind_asks, reading}
use Rattle.frames.proofs.Framing.{asked_framed, asked_refused}
use Rattle.frames.proofs.Sealing.{read_back}
use Rattle.frames.proofs.reading.read.Goals as goal

pub returns : goal.returns
returns g c =
    let k = g.K.Kind.layout in
    let line = c.args.line.now in
    let v : c.record_of.result ≡ reading k line = c.record_of.ensures ∙ asked_framed (kind_asks k) k.fields line (held c.in_ok-frame.frame) c.in_ok-frame.ensures in
    record { value = v; back = read_back k g.met.K.Kind.lawful line _ v }

pub returns-in_err-frame-clause-value : goal.returns-in_err-frame-clause-value
returns-in_err-frame-clause-value g c =
    let k = g.K.Kind.layout in
    let p = err_from_is_err_and c.from_residual.result c.from_residual.ensures.1 in
    p.1 ∙ ap Err p.2 ∙ asked_refused (kind_asks k) k.fields c.args.line.now _ c.in_err-frame.ensures
