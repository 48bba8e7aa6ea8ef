use Rattle.std.proofs.Common.{rules}
use Rattle.job.proofs.Lending.{lent_told}
use Rattle.job.proofs.handing.hand_row.Goals as goal

pub returns : goal.returns
returns g c =
    let told = lent_told g.S.Sink.model _ _ c.write_row.new.out.sink c.write_row.ensures in
    told _ (search rules)
