use Rattle.std.proofs.Common.{◌≡◌, suc, ◌+◌, ◌*◌, sym, ap, ◌∙◌, arith}
use Rattle.std.proofs.lemmas.Nat.{mul-le}
use Rattle.mtl.specs.Sizes.{extra_cells}
use Rattle.mtl.proofs.cells.extra_cells.Goals as goal

pub returns-in-Ahead : goal.returns-in-Ahead
returns-in-Ahead c =
    let k = c.args.k in
    let t = c.args.t in
    let each : (k + 1) * c.guarded_cells.result ≡ suc k * 8 = ap (λ n. (k + 1) * n) c.guarded_cells.ensures.value ∙ omega arith in
    let all = ap (λ n. t * n) each in
    record {
      value = all ∙ sym (ap (extra_cells k t) c.in-Ahead.is);
      small = omega (arith, all, mul-le t (suc k * 8) 255 2048 (omega (arith, c.ranges.t)) (omega (arith, c.ranges.k)));
    }
