use Rattle.std.proofs.Common.{◌-◌, min, rules, sym, ◌∙◌, add-one}
use Rattle.mtl.specs.Shapes.{Lits}
use Rattle.encode.specs.Parts.{lits_a}
use Rattle.encode.proofs.Spans.{down-span}
use Rattle.encode.proofs.runs.run_back.Goals as goal

pub returns : goal.returns
returns c =
    let f : Lits = lits_a c.args.p in
    let all = c.listed.ensures (λ j. f (c.args.i - j)) (λ j l lt e. search rules) in
    (rw (c.min.ensures, add-one (min c.args.t.value c.args.i)) at all) ∙ sym (down-span f c.args.i c.args.t.value)
