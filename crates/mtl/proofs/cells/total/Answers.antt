use Rattle.std.proofs.Common.{arith}
use Rattle.mtl.proofs.Sizes.{sum_more}
use Rattle.mtl.proofs.cells.total.Goals as goal

pub loop-i-preserved : goal.loop-i-preserved
loop-i-preserved g c =
    let i = c.loop-i.i in
    record {
      value = λ h e. sum_more h i _ _ _ (c.loop-i.invariant.value h e) (e i c.f-sum.result (omega arith) c.f-sum.ensures) (omega arith);
      small = λ m e. let a = c.loop-i.invariant.small m e in let b = e i c.f-sum.result (omega arith) c.f-sum.ensures in omega (arith, a, b);
      fits = omega (arith, c.requires.fits i c.f-sum.result (omega arith) c.f-sum.ensures);
    }
