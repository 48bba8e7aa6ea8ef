use Rattle.std.proofs.Common.{refl}
use Rattle.cnf.specs.Clauses.{truth, sat}
use Rattle.sinks.specs.Models.{assigned}
use Rattle.cnf.proofs.Folds.{or_more, or_stop, all_done}
use Rattle.sinks.proofs.judge.sink.satisfies.Goals as goal

pub returns-then-holds : goal.returns-then-holds
returns-then-holds c = let α = assigned c.args.area.now in or_stop (truth α) (sat α) (λ _ _. refl) _ _ _ c.loop-literal-test.true c.if-holds.ensures c.loop-literal.invariant

pub loop-literal-preserved : goal.loop-literal-preserved
loop-literal-preserved c = let α = assigned c.args.area.now in or_more (truth α) (sat α) (λ _ _. refl) _ _ _ c.loop-literal-test.true c.if-holds.ensures c.loop-literal.invariant

pub returns : goal.returns
returns c = all_done (sat (assigned c.args.area.now)) _ _ c.loop-literal-test.false c.loop-literal.invariant
