use Rattle.std.proofs.Common.{◌≡◌, ℕ, suc, ◌+◌, ◌-◌, ◌*◌, ◌≤◌, List, ◌++◌, reverse, length, drop, Decides, refl, sym, ap, ◌∙◌, subst, arith, rules, tests, length-append, length-drop, length-take-le}
use Rattle.std.proofs.lemmas.List.{take_all}
use borrow.Rule.Slice.PartMut.{put_mid}
use Rattle.mtl.specs.declared.row.Row.{Row}
use Rattle.mtl.specs.Rows.{extra}
use Rattle.mtl.specs.Lists.{top}
use Rattle.mtl.proofs.Tables.{top_least}
use Rattle.evaluate.specs.Truths.{row_at, older}
use Rattle.evaluate.proofs.Tables.{ready}
use Rattle.witness.specs.Areas.{Bits, Tell}
use Rattle.witness.specs.Blocks.{Laid}
use Rattle.witness.proofs.Laying.{byte_tells, top_more, top_to, top_small}
use Rattle.witness.proofs.Putting.{Put, put_front, put_middle, begun_laid, block_laid, bits_put, same_put}
use Rattle.witness.proofs.area.write_area.Goals as goal

pub slice_bounds-write_bits-end : goal.slice_bounds-write_bits-end
slice_bounds-write_bits-end c = let t = top_least c.args.lines.now.lasso.bound (reverse c.args.rows.now) in omega arith

pub slice_bounds-write_bits-end-2 : goal.slice_bounds-write_bits-end-2
slice_bounds-write_bits-end-2 c =
    let t = top_least c.args.lines.now.lasso.bound (reverse c.args.rows.now) in
    sym (length-take-le c.instants-instants.result c.args.area.now (omega arith))

pub slice_bounds-write_bits-end-3 : goal.slice_bounds-write_bits-end-3
slice_bounds-write_bits-end-3 c =
    let m = c.instants-instants.result in
    let xs = c.args.area.now in
    let ys = c.write_bits.new.bytes in
    let t = top_least c.args.lines.now.lasso.bound (reverse c.args.rows.now) in
    let d : length ys ≡ m = omega (arith, length-take-le m xs (omega arith)) in
    let h : 2 * m ≤ length (ys ++ drop m xs) = omega (arith, length-append ys (drop m xs), length-drop m xs) in
    search rules

-- where the block of row n ends
pub overflow_add-end : goal.overflow_add-end
overflow_add-end c =
    let k = c.args.lines.now.lasso.bound in
    let rows = c.args.rows.now in
    let n = c.loop-n.n in
    let m = top_more k rows n (omega arith) in
    let u = top_to k rows (n + 1) (omega arith) in
    let s = top_small k rows (omega arith) c.requires.sizes.1 (omega arith) in
    omega (arith, c.block_size.ensures.value, c.loop-n.invariant.0)

pub slice_bounds-write_block-end : goal.slice_bounds-write_block-end
slice_bounds-write_block-end c =
    let k = c.args.lines.now.lasso.bound in
    let rows = c.args.rows.now in
    let n = c.loop-n.n in
    let m = top_more k rows n (omega arith) in
    let u = top_to k rows (n + 1) (omega arith) in
    let h : c.loop-n.at + c.block_size.result ≤ length c.loop-n.area = omega (arith, c.block_size.ensures.value, c.loop-n.invariant.0) in
    search rules

pub write_block-requires : goal.write_block-requires
write_block-requires c =
    let k = c.args.lines.now.lasso.bound in
    let rows = c.args.rows.now in
    let n = c.loop-n.n in
    let at = c.loop-n.at in
    let m = top_more k rows n (omega arith) in
    let u = top_to k rows (n + 1) (omega arith) in
    let v = c.block_size.ensures.value in
    let z : at + c.block_size.result - at ≡ c.block_size.result = omega arith in
    let w : at + c.block_size.result - at ≤ length (drop at c.loop-n.area) = omega (arith, length-drop at c.loop-n.area, v, c.loop-n.invariant.0) in
    (omega arith, ready rows c.requires.sizes.1 n (omega arith), length-take-le (at + c.block_size.result - at) (drop at c.loop-n.area) w ∙ z ∙ v)

pub loop-n-init : goal.loop-n-init
loop-n-init c =
    let k = c.args.lines.now.lasso.bound in
    let l = c.args.lines.now.lasso.start in
    let t = top_least k (reverse c.args.rows.now) in
    let m = c.instants-instants.result in
    let xs = c.args.area.now in
    let ys = c.write_bits.new.bytes in
    let us = c.write_bits-2.new.bytes in
    let zs = ys ++ drop m xs in
    let vs = put_mid m (2 * m - m) zs us in
    let w : m ≡ k + 1 = omega arith in
    let d : length ys ≡ k + 1 = omega (arith, length-take-le m xs (omega arith)) in
    let e : length us ≡ k + 1 = omega (arith, length-take-le {A = ℕ}, length-drop {A = ℕ}, length-append {A = ℕ}) in
    let p : Put 0 xs ys zs = put_front m xs ys (omega arith) in
    let q : Put m zs us vs = put_middle m (2 * m - m) zs us (omega (arith, length-append ys (drop m xs))) (omega arith) in
    let first : Tell ys 0 (k + 1) (λ i. l ≡ i) = λ i b.
    let t = c.write_bits.ensures.told i (omega arith) in
    let post = t.1 in
    let d : Decides t.0 (l ≡ i) = search (rules, tests) in
    byte_tells ys i (0 + i) t.0 (l ≡ i) (omega arith) t.2 d in
    let second : Tell us 0 (k + 1) (λ i. l ≤ i) = λ i b.
    let t = c.write_bits-2.ensures.told i (omega arith) in
    let post = t.1 in
    let d : Decides t.0 (l ≤ i) = search (rules, tests) in
    byte_tells us i (0 + i) t.0 (l ≤ i) (omega arith) t.2 d in
    let bits : Bits 0 (length ys) ys = λ j a b. c.write_bits.ensures.bits j a (omega arith) in
    let bits' : Bits 0 (length us) us = λ j a b. c.write_bits-2.ensures.bits j a (omega arith) in (
      omega arith,
      begun_laid k l m c.args.lines.now.bytes.now xs ys zs us vs w d e p q first second,
      bits_put m zs us vs q (2 * m) (omega arith) (bits_put 0 xs ys zs p m (omega arith) (λ j a b. absurd (omega arith)) bits) bits',
      same_put m zs us vs q (2 * m) xs (omega arith) (same_put 0 xs ys zs p m xs (omega arith) (λ j a. refl)),
    )

pub loop-n-preserved : goal.loop-n-preserved
loop-n-preserved c =
    let k = c.args.lines.now.lasso.bound in
    let l = c.args.lines.now.lasso.start in
    let work = c.args.lines.now.bytes.now in
    let rows = c.args.rows.now in
    let n = c.loop-n.n in
    let at = c.loop-n.at in
    let xs = c.loop-n.area in
    let ys = c.write_block.new.block in
    let m = top_more k rows n (omega arith) in
    let u = top_to k rows (n + 1) (omega arith) in
    let v = c.block_size.ensures.value in
    let end = at + c.block_size.result in
    let zs = put_mid at (end - at) xs ys in
    let len : length ys ≡ suc k + extra k (row_at rows n) = omega (arith, length-take-le {A = ℕ}, length-drop {A = ℕ}) in
    let p : Put at xs ys zs = put_middle at (end - at) xs ys (omega arith) (omega arith) in
    let bits : Bits 0 (length ys) ys = λ j a b. c.write_block.ensures.bits j a (omega arith) in (
      omega arith,
      block_laid at xs ys zs p k l work rows n (omega arith) c.loop-n.invariant.0 len c.loop-n.invariant.1 c.write_block.ensures.told,
      bits_put at xs ys zs p end (omega arith) c.loop-n.invariant.2 bits,
      same_put at xs ys zs p end c.args.area.now (omega arith) c.loop-n.invariant.3,
    )

pub returns : goal.returns
returns c =
    let k = c.args.lines.now.lasso.bound in
    let l = c.args.lines.now.lasso.start in
    let n = c.loop-n.n in
    let rows = c.args.rows.now in
    let e : older rows n ≡ reverse rows = ap reverse (take_all n rows (omega arith)) in
    let h = ap (λ (rs : List Row). top k rs) e in
    let t = top_least k (reverse rows) in
    record {
      laid = subst (λ (rs : List Row). Laid k l c.args.lines.now.bytes.now c.loop-n.area rs) e c.loop-n.invariant.1;
      bits = λ j d b. c.loop-n.invariant.2 j d (omega arith);
      rest = λ j b. c.loop-n.invariant.3 j (omega arith);
    }
