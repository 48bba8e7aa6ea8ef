use Rattle.std.proofs.Common.{◌≡◌, ◌+◌, ◌≤◌, List, ◌∷◌, reverse, length, sym, ap, subst, mul-le-mul_right, arith}
use Rattle.std.proofs.lemmas.Bool.{both_ways}
use Rattle.std.proofs.lemmas.List.{take_all}
use Rattle.mtl.specs.declared.row.Row.{Row}
use Rattle.mtl.specs.Runs.{word, formula, Settled, SettledRow}
use Rattle.evaluate.specs.Letters.{has}
use Rattle.evaluate.specs.Truths.{row_at, older, Known}
use Rattle.evaluate.proofs.Tables.{ready, settled_row, older_more, settled_right, known_more}
use Rattle.evaluate.proofs.rows.evaluate.Goals as goal

pub write_row-requires : goal.write_row-requires
write_row-requires c =
    let p : c.loop-n.n + 1 ≤ length c.args.rows.now = omega arith in
    let q = mul-le-mul_right (c.args.run.now.lasso.bound + 1) p in
    record {
      sizes = (omega arith, omega arith, omega arith, ready c.args.rows.now c.requires.1 c.loop-n.n (omega arith));
      known_before = c.loop-n.invariant.1;
    }

pub closes_on-requires : goal.closes_on-requires
closes_on-requires c =
    (omega arith, ready c.args.rows.now c.requires.1 c.loop-n.n (omega arith))

pub returns-then-not-closes_on : goal.returns-then-not-closes_on
returns-then-not-closes_on c =
    let k = c.args.run.now.lasso.bound in let l = c.args.run.now.lasso.start in let n = c.loop-n.n in let ls = c.args.run.now.letters.now in let rows = c.args.rows.now in
    let d = settled_right k l (omega arith) ls c.write_row.new.work (older rows n) n c.write_row.ensures.known (row_at rows n) (ready rows c.requires.1 n (omega arith)).0 c.write_row.ensures.written c.closes_on.result c.closes_on.ensures in
    let fails : SettledRow k l (word k l (has ls)) (formula (older rows n)) (row_at rows n) → ⊥ = λ s. both_ways c.closes_on.result c.if-not-closes_on.true (d.1 s) in
    record {
      row = omega arith;
      earlier = c.loop-n.invariant.0;
      fails = fails;
      never = λ s. fails (settled_row k l (word k l (has ls)) rows n (omega arith) s);
    }

pub loop-n-preserved : goal.loop-n-preserved
loop-n-preserved c =
    let k = c.args.run.now.lasso.bound in let l = c.args.run.now.lasso.start in let n = c.loop-n.n in let ls = c.args.run.now.letters.now in let rows = c.args.rows.now in
    let work = c.write_row.new.work in
    let h : l ≤ k = omega arith in
    let d = settled_right k l h ls work (older rows n) n c.write_row.ensures.known (row_at rows n) (ready rows c.requires.1 n (omega arith)).0 c.write_row.ensures.written c.closes_on.result c.closes_on.ensures in
    let s : Settled k l (word k l (has ls)) (row_at rows n ∷ older rows n) = (c.loop-n.invariant.0, d.0 c.if-not-closes_on.false) in
    let e = older_more rows n (omega arith) in (
      subst (λ (rs : List Row). Settled k l (word k l (has ls)) rs) (sym e) s,
      subst (λ (rs : List Row). Known k l ls rs work (n + 1)) (sym e) (known_more k l h ls work rows c.requires.1 n (omega arith) c.write_row.ensures.known c.write_row.ensures.written s),
    )

pub returns : goal.returns
returns c =
    let k = c.args.run.now.lasso.bound in let l = c.args.run.now.lasso.start in let n = c.loop-n.n in let ls = c.args.run.now.letters.now in let rows = c.args.rows.now in
    let e : older rows n ≡ reverse rows = ap reverse (take_all n rows (omega arith)) in
    let z : n ≡ length rows = omega arith in
    record {
      settled = subst (λ (rs : List Row). Settled k l (word k l (has ls)) rs) e c.loop-n.invariant.0;
      says = subst (λ m. Known k l ls (reverse rows) c.loop-n.work m) z (subst (λ (rs : List Row). Known k l ls rs c.loop-n.work n) e c.loop-n.invariant.1);
    }
