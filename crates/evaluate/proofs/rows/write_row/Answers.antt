use Rattle.std.proofs.Common.{◌≡◌, ℕ, ◌+◌, ◌*◌, ◌≤◌, eqb, List, ◌++◌, length, ap, ◌∙◌, subst, arith}
use Rattle.std.proofs.lemmas.List.{get_or_append_left}
use Rattle.std.proofs.lemmas.Bool.Decides.{Decides-at}
use Rattle.evaluate.specs.Bits.{bit}
use Rattle.evaluate.specs.Lines.{line, Meant}
use Rattle.evaluate.specs.Truths.{row_at, older, cell, Known}
use Rattle.evaluate.proofs.Cells.{cell_later, known_front, known_whole, bits_more}
use Rattle.evaluate.proofs.Tables.{value_right}
use Rattle.evaluate.proofs.rows.write_row.Goals as goal

pub loop-i-preserved : goal.loop-i-preserved
loop-i-preserved c =
    let run = c.args.run.now in
    let k = run.lasso.bound in
    let S = Meant k run.lasso.start run.letters.now (line k c.split_at_mut-earlier.result.0.now) (row_at c.args.rows.now c.args.n) in
    bits_more c.loop-i.line S c.loop-i.i c.from.result (omega arith) c.value_at.result c.from.ensures c.value_at.ensures c.loop-i.invariant

pub returns : goal.returns
returns c =
    let k = c.args.run.now.lasso.bound in
    let l = c.args.run.now.lasso.start in
    let n = c.args.n in
    let ls = c.args.run.now.letters.now in
    let rs = older c.args.rows.now n in
    let r = row_at c.args.rows.now n in
    let h : l ≤ k = omega arith in
    let earlier = c.split_at_mut-earlier.result.0.now in
    let tail = c.split_at_mut-line.result.1.now in
    let len : length earlier ≡ n * (k + 1) = c.split_at_mut-earlier.ensures.front_len ∙ ap (λ i. n * i) c.instants-instants.ensures in
    let known : Known k l ls rs earlier n = known_front k n earlier c.split_at_mut-earlier.result.1.now len l h ls rs (subst (λ (w : List ℕ). Known k l ls rs w n) c.split_at_mut-earlier.ensures.value c.requires.known_before) in
    record {
      known = known_whole k n earlier (c.loop-i.line ++ tail) len l h ls rs known;
      written = λ i b.
          let told = value_right k l h ls earlier rs n known r c.requires.sizes.3.0 i (omega arith) (bit c.loop-i.line i) (c.loop-i.invariant i (omega arith)) in
          let there = cell_later k n earlier (c.loop-i.line ++ tail) len i (omega arith) ∙ ap (λ x. eqb x 1) (get_or_append_left c.loop-i.line tail 0 i (omega arith)) in
          Decides-at (cell k (earlier ++ (c.loop-i.line ++ tail)) n i) (bit c.loop-i.line i) there told;
    }
