use Rattle.std.proofs.Common.{◌≡◌, ◌+◌, ◌-◌, ◌≤◌, Bool, true, Decides, sym, ap, ◌∙◌, subst, arith, rules, tests}
use Rattle.mtl.specs.declared.operator.Extra.{Extra}
use Rattle.mtl.specs.declared.operator.Extra.TheVariants.{Seen, Ahead}
use Rattle.mtl.specs.declared.operator.Operator.{Operator}
use Rattle.mtl.specs.Formula.{Within}
use Rattle.mtl.specs.Rows.{first, second, distance, operator_of, extra_count}
use Rattle.evaluate.specs.Bits.{Round}
use Rattle.evaluate.specs.Lines.{line}
use Rattle.witness.specs.Areas.{Tell}
use Rattle.witness.specs.Blocks.{sought, SeenUpto, ExtraTold}
use Rattle.witness.proofs.Laying.{byte_tells, seen_tells}
use Rattle.witness.proofs.area.write_extra.Goals as goal

pub returns-in-Seen-clause-told : goal.returns-in-Seen-clause-told
returns-in-Seen-clause-told c =
    let k = c.args.lines.now.lasso.bound in
    let l = c.args.lines.now.lasso.start in
    let work = c.args.lines.now.bytes.now in
    let r = c.args.row in
    let new = c.write_bits.new.bytes in
    let e : (operator_of r).extra ≡ Seen = ap (λ (o : Operator). o.extra) (sym c.operator-operator.ensures) ∙ c.in-Seen.is in
    let many = c.requires.1 ∙ ap (extra_count k (distance r)) e in
    let sense : c.sought-sense.result ≡ sought (operator_of r).shape = c.sought-sense.ensures ∙ ap (λ (o : Operator). sought o.shape) c.operator-operator.ensures in
    let tells : Tell new 0 (k + 1) (SeenUpto k l (sought (operator_of r).shape) (line k work (second r))) = λ i b.
    let t = c.write_bits.ensures.told i (omega arith) in
    let post = t.1 in
    let d : Decides t.0 ((l ≤ i) × Within (Round k l c.sought-sense.result (line k work (second r))) (i - l) l) = search (rules, tests) in
    let told = seen_tells k l i c.sought-sense.result (line k work (second r)) t.0 d in
    byte_tells new i (0 + i) t.0 (SeenUpto k l (sought (operator_of r).shape) (line k work (second r)) i) (omega arith) t.2 (subst (λ (s : Bool). Decides t.0 (SeenUpto k l s (line k work (second r)) i)) sense told) in
    subst (λ (x : Extra). ExtraTold k l new 0 (line k work (first r)) (line k work (second r)) (distance r) (operator_of r).shape x) (sym e) tells

pub returns-in-Ahead-clause-told : goal.returns-in-Ahead-clause-told
returns-in-Ahead-clause-told c =
    let k = c.args.lines.now.lasso.bound in
    let l = c.args.lines.now.lasso.start in
    let work = c.args.lines.now.bytes.now in
    let r = c.args.row in
    let new = c.write_bits-in-Ahead.new.bytes in
    let e : (operator_of r).extra ≡ Ahead = ap (λ (o : Operator). o.extra) (sym c.operator-operator.ensures) ∙ c.in-Ahead.is in
    let many = c.requires.1 ∙ ap (extra_count k (distance r)) e in
    let tells : Tell new 0 (distance r) (λ i. Round k l true (line k work (first r)) (k + 1 + i)) = λ i b.
    let t = c.write_bits-in-Ahead.ensures.told i (omega arith) in
    let post = t.1 in
    let d : Decides t.0 (Round k l true (line k work (first r)) (k + 1 + i)) = search (rules, tests) in
    byte_tells new i (0 + i) t.0 (Round k l true (line k work (first r)) (k + 1 + i)) (omega arith) t.2 d in
    subst (λ (x : Extra). ExtraTold k l new 0 (line k work (first r)) (line k work (second r)) (distance r) (operator_of r).shape x) (sym e) tells
