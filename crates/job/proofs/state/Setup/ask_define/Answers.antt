use Rattle.std.proofs.Common.{arith, rules}
use Rattle.std.proofs.lemmas.Bool.Decides.{nat_tests}
use Rattle.std.proofs.lemmas.Grind.{common_steps}
use Rattle.job.proofs.Coded.{coded}
use Rattle.job.proofs.state.Setup.ask_define.Goals as goal

pub returns-then-not-unused_are_zero : goal.returns-then-not-unused_are_zero
returns-then-not-unused_are_zero c =
    let k = coded c.args.define c.in_ok-row.row (search rules) in
    grind (arith, nat_tests, common_steps, k.coded, k.operator)

pub returns-then-not-operands_are_there : goal.returns-then-not-operands_are_there
returns-then-not-operands_are_there c =
    let k = coded c.args.define c.in_ok-row.row (search rules) in
    grind (arith, nat_tests, common_steps, k.coded, k.operator, k.row)

pub returns-then-t-gt-HIGHEST_DISTANCE : goal.returns-then-t-gt-HIGHEST_DISTANCE
returns-then-t-gt-HIGHEST_DISTANCE c =
    let k = coded c.args.define c.in_ok-row.row (search rules) in
    grind (arith, nat_tests, common_steps, k.coded, k.operator, k.row)

pub returns : goal.returns
returns c =
    let k = coded c.args.define c.in_ok-row.row (search rules) in
    grind (arith, nat_tests, common_steps, k.coded, k.operator, k.row)
