use Rattle.std.proofs.Common.{◌<◌, ◌≢◌, length, ⊎_elim, arith, get_or-set_other, get_or-set_same}
use Rattle.std.proofs.lemmas.Bool.{cases_order}
use Rattle.evaluate.proofs.Cells.{bit_small}
use Rattle.witness.proofs.area.write_bits.Goals as goal

pub loop-i-preserved : goal.loop-i-preserved
loop-i-preserved g c = λ j b.
    let here : c.loop-i.i < length c.loop-i.bytes = omega arith in
    ⊎_elim (λ e. rw e (c.truth.result, c.truth.ensures, rw get_or-set_same c.from.ensures))
    (λ h.
    let f : j < c.loop-i.i = ⊎_elim (λ a. a) (λ a. absurd (omega arith)) h in
    let ne : j ≢ c.loop-i.i = λ e. omega arith in
    let old = c.loop-i.invariant j f in
    (old.0, old.1, rw get_or-set_other old.2))
    (cases_order j c.loop-i.i)

pub returns-clause-told : goal.returns-clause-told
returns-clause-told g c = λ i b. c.loop-i.invariant i (omega arith)

pub returns-clause-bits : goal.returns-clause-bits
returns-clause-bits g c = λ j a b. let t = c.loop-i.invariant j (omega arith) in rw t.2 (bit_small t.0)
