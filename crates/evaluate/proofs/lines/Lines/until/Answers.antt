use Rattle.std.proofs.Common.{◌≡◌, ℕ, sym, subst, ⊎_elim, arith, rules, tests}
use Rattle.std.proofs.lemmas.Bool.{true≢false, cases_order}
use Rattle.evaluate.specs.Bits.{Round}
use Rattle.evaluate.specs.Lines.{line}
use Rattle.evaluate.specs.Truths.{cell}
use Rattle.evaluate.proofs.Rounds.{never_round}
use Rattle.evaluate.proofs.lines.Lines.until.Goals as goal

pub returns : goal.returns
returns c =
    let s = c.args.self.now in (
      (λ e. absurd (true≢false (sym e))),
      λ u. absurd (never_round s.lasso.bound s.lasso.start (omega arith) c.args.i (omega arith) (λ m. cell s.lasso.bound s.bytes.now c.args.b m ≡ c.args.sense) (λ m g h. (c.loop-j.invariant m g (omega arith)).1) u.0 u.1 u.2),
    )

pub returns-then-round-sense-2 : goal.returns-then-round-sense-2
returns-then-round-sense-2 c =
    let s = c.args.self.now in
    let S = λ (a m : ℕ). Round s.lasso.bound s.lasso.start c.args.sense (line s.lasso.bound s.bytes.now a) m in
    let never : (S c.args.a c.loop-j.j → ⊥) × (S c.args.b c.loop-j.j → ⊥) = search (rules, tests) in (
      (λ e. absurd (true≢false (sym e))),
      λ u. absurd (⊎_elim (λ e. never.1 (subst (S c.args.b) e u.2)) (λ f. ⊎_elim (λ b. (c.loop-j.invariant u.0 u.1 b).1 u.2) (λ b. never.0 (u.3 c.loop-j.j (omega arith) b)) f) (cases_order u.0 c.loop-j.j)),
    )

pub loop-j-preserved : goal.loop-j-preserved
loop-j-preserved c =
    let s = c.args.self.now in
    let S = λ (a m : ℕ). Round s.lasso.bound s.lasso.start c.args.sense (line s.lasso.bound s.bytes.now a) m in
    let now : S c.args.a c.loop-j.j × (S c.args.b c.loop-j.j → ⊥) = search (rules, tests) in
    λ m g h. ⊎_elim (λ e. subst (λ n. S c.args.a n × (S c.args.b n → ⊥)) (sym e) now) (λ f. ⊎_elim (λ b. c.loop-j.invariant m g b) (λ b. absurd (omega arith)) f) (cases_order m c.loop-j.j)
