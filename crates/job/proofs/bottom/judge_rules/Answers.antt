use Rattle.std.proofs.Common.{unwrap_or, ap, ◌∙◌}
use Rattle.job.proofs.Bottoms.{judged_rules}
use Rattle.job.proofs.bottom.judge_rules.Goals as goal

pub returns : goal.returns
returns c =
    judged_rules c.args.area.now c.args.exchanges.now c.drive-job.new.exchanges c.new.result c.drive-job.result.sink _ c.first_false.result c.new.ensures c.drive-job.ensures (c.first_false.ensures.number ∙ ap (λ j. unwrap_or j.fault 0) c.sink.ensures)
