use Rattle.std.proofs.Common.{◌≡◌, get_or, None, arith}
use Rattle.std.proofs.lemmas.Grind.{common_steps}
use Rattle.answers.specs.Values.{bit}
use Rattle.answers.proofs.Results.{put}
use Rattle.answers.proofs.valuation.write.Goals as goal

pub loop-i-preserved : goal.loop-i-preserved
loop-i-preserved c =
    let vs = c.args.values.now in
    let i = c.loop-i.i in
    let b : c.from.result ≡ bit (get_or vs i None) = grind (arith, common_steps) in
    put vs c.args.area.now i c.from.result c.loop-i.area c.loop-i.invariant (omega arith) (omega arith) b
