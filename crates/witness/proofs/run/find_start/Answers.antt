use Rattle.std.proofs.Common.{◌≡◌, ◌+◌, ◌<◌, ◌≤◌, Bool, eqb, length, take, ◌∙◌, subst, arith, rules, tests}
use Rattle.std.proofs.lemmas.Iterator.{YieldsList-from_slice, IsFirst-from_position}
use Rattle.std.specs.List.{AllWithin, HoldsAt, IsAnyAnswer}
use Rattle.witness.proofs.Starts.{rest, no_start, two_starts, one_start_only}
use Rattle.witness.proofs.run.find_start.Goals as goal

pub returns-in_err-start : goal.returns-in_err-start
returns-in_err-start c =
    let area = c.args.area.now in
    let n = c.args.k + 1 in
    let h : n ≤ length area = omega arith in
    let f : AllWithin (λ b. b ≡ 1 → ⊥) (take n area) 0 (length (take n area)) =
    IsFirst-from_position _ _ _ (λ b. b ≡ 1) (λ b. b ≡ 1 → ⊥) c.in_err-start.ensures.ran (YieldsList-from_slice _ c.iter.ensures.rest) (λ x q k. search (rules, tests)) (λ x q k. search (rules, tests)) in
    c.from_residual.ensures ∙ no_start area n h f

pub returns-then-contains : goal.returns-then-contains
returns-then-contains c =
    let area = c.args.area.now in
    let n = c.args.k + 1 in
    let p = c.in_ok-start.start in
    let h : n ≤ length area = omega arith in
    let f : (p < length (take n area)) × HoldsAt (λ b. b ≡ 1) (take n area) p × AllWithin (λ b. b ≡ 1 → ⊥) (take n area) 0 p =
    IsFirst-from_position _ _ _ (λ b. b ≡ 1) (λ b. b ≡ 1 → ⊥) c.in_ok-start.ensures.ran (YieldsList-from_slice _ c.iter.ensures.rest) (λ x q k. search (rules, tests)) (λ x q k. search (rules, tests)) in
    two_starts area n h p f.0 f.1 (subst (λ (b : Bool). IsAnyAnswer (λ y b. eqb y 1 ≡ b) (rest area n h p) b) c.if-contains.true c.contains.ensures.cases)

pub returns : goal.returns
returns c =
    let area = c.args.area.now in
    let n = c.args.k + 1 in
    let p = c.in_ok-start.start in
    let h : n ≤ length area = omega arith in
    let f : (p < length (take n area)) × HoldsAt (λ b. b ≡ 1) (take n area) p × AllWithin (λ b. b ≡ 1 → ⊥) (take n area) 0 p =
    IsFirst-from_position _ _ _ (λ b. b ≡ 1) (λ b. b ≡ 1 → ⊥) c.in_ok-start.ensures.ran (YieldsList-from_slice _ c.iter.ensures.rest) (λ x q k. search (rules, tests)) (λ x q k. search (rules, tests)) in
    one_start_only area n h p f.0 f.1 f.2 (subst (λ (b : Bool). IsAnyAnswer (λ y b. eqb y 1 ≡ b) (rest area n h p) b) c.if-contains.false c.contains.ensures.cases)
