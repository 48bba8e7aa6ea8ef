use Rattle.std.proofs.Common.{length, sym, ap, ◌∙◌, rules}
use Rattle.job.proofs.Bottoms.{wrote_rules}
use Rattle.job.proofs.bottom.write_rules.Goals as goal

pub returns : goal.returns
returns c =
    let told = wrote_rules c.args.area.now c.args.exchanges.now c.drive_lent-setup.new.exchanges c.new-writer.result c.drive_lent-setup.new.sink _ (record { bytes = length c.text.result.now; clauses = c.count.result; highest = c.highest.result }) c.new-writer.ensures.new in
    told _ (λ e. let f = sym c.new-writer.ensures.name ∙ e in search rules) c.drive_lent-setup.ensures (ap length c.text.ensures) c.count.ensures c.highest.ensures.value
