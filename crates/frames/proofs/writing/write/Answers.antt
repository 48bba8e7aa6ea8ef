use Rattle.std.proofs.Common.{ap, ◌∙◌}
use Rattle.frames.specs.Lines.{reading}
use Rattle.frames.specs.Written.{spelled}
use Rattle.frames.proofs.Sealing.{write_read}
use Rattle.frames.proofs.writing.write.Goals as goal

pub returns-clause-back : goal.returns-clause-back
returns-clause-back g c =
    let k = g.K.Kind.layout in
    ap (reading k) (c.encode.ensures ∙ ap spelled c.seal.ensures.value) ∙ write_read k g.met.K.Kind.lawful c.args.x c.seal.ensures.small
