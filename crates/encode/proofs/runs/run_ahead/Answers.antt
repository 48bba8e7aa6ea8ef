use Rattle.std.proofs.Common.{suc, ◌+◌, rules, ◌∙◌, add-one, add-zero}
use Rattle.mtl.specs.Shapes.{Lits}
use Rattle.mtl.specs.Lists.{ahead}
use Rattle.encode.specs.Parts.{lits_a, lits_e}
use Rattle.encode.proofs.Spans.{span_from}
use Rattle.encode.proofs.runs.run_ahead.Goals as goal

pub returns : goal.returns
returns c =
    let f : Lits = ahead c.args.p.k (lits_a c.args.p) (lits_e c.args.p) in
    let all = c.listed.ensures (λ j. f (c.args.i + j)) (λ j l lt e. search rules) in
    (rw (add-one c.args.t.value) at all) ∙ span_from f c.args.i 0 (suc c.args.t.value) ∙ rw add-zero
