use Rattle.std.proofs.Common.{◌≡◌, ◌+◌, true, ◌++◌, length, get_or, Decides, ap, ◌∙◌, arith, rules, tests}
use Rattle.std.proofs.lemmas.List.{get_or_append_left, get_or-append-add}
use Rattle.mtl.specs.Rows.{first, second, distance, operator_of}
use Rattle.evaluate.specs.Bits.{At}
use Rattle.evaluate.specs.Lines.{line}
use Rattle.witness.proofs.Laying.{byte_tells, tell_moved, extra_moved}
use Rattle.witness.proofs.area.write_block.Goals as goal

pub returns-clause-told : goal.returns-clause-told
returns-clause-told c =
    let k = c.args.lines.now.lasso.bound in
    let l = c.args.lines.now.lasso.start in
    let work = c.args.lines.now.bytes.now in
    let r = c.args.row in
    let xs = c.write_bits.new.bytes in
    let ys = c.write_extra.new.bytes in
    let len : length xs ≡ k + 1 = omega arith in (
      tell_moved xs (xs ++ ys) 0 0 (k + 1) (At true (line k work c.args.n)) (λ j b. get_or_append_left xs ys 0 (0 + j) (omega arith)) (λ i b.
          let t = c.write_bits.ensures.told i (omega arith) in
          let post = t.1 in
          let d : Decides t.0 (At true (line k work c.args.n) i) = search (rules, tests) in
          byte_tells xs i (0 + i) t.0 (At true (line k work c.args.n) i) (omega arith) t.2 d),
      extra_moved ys (xs ++ ys) 0 (0 + (k + 1)) k l (line k work (first r)) (line k work (second r)) (distance r) (operator_of r).shape (operator_of r).extra
          (λ j b.
          let z : 0 + (k + 1) + j ≡ length xs + (0 + j) = omega arith in
          ap (λ i. get_or (xs ++ ys) i 0) z ∙ get_or-append-add xs ys (0 + j) 0)
          c.write_extra.ensures.told,
    )
