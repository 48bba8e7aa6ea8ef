use Rattle.std.proofs.Common.{◌≡◌, ◌+◌, Bool, true, false, eqb, leb, length, Err, sym, ◌∙◌, arith, rules}
use Rattle.std.proofs.lemmas.Bool.{eq-eqb, lt-leb}
use Rattle.mtl.specs.Layout.{rows_of}
use Rattle.job.specs.States.{state_of}
use Rattle.witness.specs.declared.refusal.Refusal.TheVariants.{NotBegun, Letters, Start}
use Rattle.witness.specs.Fills.{early_answer}
use Rattle.witness.proofs.Filling.{decided, refused}
use Rattle.witness.proofs.fill.ask_fill.Goals as goal

pub returns-then-not-is_begun-clause-answer : goal.returns-then-not-is_begun-clause-answer
returns-then-not-is_begun-clause-answer c =
    let s = state_of c.args.setup.now in
    let d = decided (rows_of c.args.setup.now.table) c.args.letters.now in
    let e : (known : Bool) → Err NotBegun ≡ early_answer s c.args.l (length c.args.letters.now) known c.args.area c.args.work = λ known. search rules in
    refused s c.args.l c.args.letters.now d.0 c.args.area c.args.work d.1 NotBegun (e d.0)

pub returns-then-letters-bound-clause-answer : goal.returns-then-letters-bound-clause-answer
returns-then-letters-bound-clause-answer c =
    let s = state_of c.args.setup.now in
    let d = decided (rows_of c.args.setup.now.table) c.args.letters.now in
    let e : (known : Bool) → Err Letters ≡ early_answer s c.args.l (length c.args.letters.now) known c.args.area c.args.work = λ known. search rules in
    refused s c.args.l c.args.letters.now d.0 c.args.area c.args.work d.1 Letters (e d.0)

pub returns-then-l-bound-clause-answer : goal.returns-then-l-bound-clause-answer
returns-then-l-bound-clause-answer c =
    let s = state_of c.args.setup.now in
    let d = decided (rows_of c.args.setup.now.table) c.args.letters.now in
    let b : s.begun ≡ true = sym c.is_begun.ensures ∙ c.if-not-is_begun.false in
    let w : eqb (length c.args.letters.now) (s.bound + 1) ≡ true = eq-eqb (length c.args.letters.now) (s.bound + 1) (omega (arith, c.bound.ensures.value)) in
    let f : leb c.args.l s.bound ≡ false = lt-leb c.args.l s.bound (omega (arith, c.bound-2.ensures.value)) in
    let e : (known : Bool) → Err Start ≡ early_answer s c.args.l (length c.args.letters.now) known c.args.area c.args.work = λ known. rw (b, w, f) in
    refused s c.args.l c.args.letters.now d.0 c.args.area c.args.work d.1 Start (e d.0)
