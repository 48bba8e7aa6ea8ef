use Rattle.std.proofs.Common.{rules}
use Rattle.job.proofs.Lending.{lent_told}
use Rattle.job.proofs.handing.hand_begin.Goals as goal

pub returns : goal.returns
returns g c =
    let told = lent_told g.S.Sink.model _ _ c.write_begin.new.out.sink c.write_begin.ensures in
    told _ (search rules)
