use Rattle.std.proofs.Common.{length, sym, ap, ◌∙◌, rules}
use Rattle.job.proofs.Bottoms.{wrote_piled}
use Rattle.job.proofs.bottom.write_piled.Goals as goal

pub returns : goal.returns
returns c =
    let told = wrote_piled c.args.first c.args.second c.args.area.now c.args.exchanges.now c.drive_piled.new.exchanges c.new-writer.result c.drive_piled.new.sink _ c.new-writer.ensures.new in
    told _ (λ e. let f = sym c.new-writer.ensures.name ∙ e in search rules) (length c.text.result.now) c.drive_piled.ensures (ap length c.text.ensures)
