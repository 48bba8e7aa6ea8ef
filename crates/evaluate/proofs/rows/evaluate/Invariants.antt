use Rattle.mtl.specs.Runs.{word, Settled}
use Rattle.evaluate.specs.Letters.{has}
use Rattle.evaluate.specs.Truths.{older, Known}
use Rattle.evaluate.proofs.rows.evaluate.Given as goal

abbrev pub invariant-loop-n : goal.invariant-loop-n
invariant-loop-n l =
    Settled l.run.lasso.bound l.run.lasso.start (word l.run.lasso.bound l.run.lasso.start (has l.run.letters.now)) (older l.rows l.n)
    × Known l.run.lasso.bound l.run.lasso.start l.run.letters.now (older l.rows l.n) l.work l.n
