use Rattle.std.proofs.Common.{ap, arith}
use Rattle.cnf.specs.declared.clause.Literal.{Literal}
use Rattle.mtl.specs.Layout.{rows_of}
use Rattle.witness.proofs.Reading.{row_inside, start-inside}
use Rattle.witness.proofs.run.Assignment.shows.Goals as goal

pub overflow_sub-result : goal.overflow_sub-result
overflow_sub-result c =
    let s = c.args.self.now in
    let there = row_inside c.args.a (rows_of s.table.now) c.in-Some.n c.in-Some.ensures in
    omega (arith, ap (λ (x : Literal). x.variable) c.value.ensures, (start-inside s.bound (rows_of s.table.now) c.in-Some.n c.args.i there (omega arith)).0)

pub bounds-self-value : goal.bounds-self-value
bounds-self-value c =
    let s = c.args.self.now in
    let there = row_inside c.args.a (rows_of s.table.now) c.in-Some.n c.in-Some.ensures in
    omega (arith, ap (λ (x : Literal). x.variable) c.value.ensures, start-inside s.bound (rows_of s.table.now) c.in-Some.n c.args.i there (omega arith))
