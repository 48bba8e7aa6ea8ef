-- What is true of a run is true of another on which every row has the same truth.
use Rattle.std.proofs.Common.{◌≡◌, ℕ, suc, ◌+◌, ◌-◌, ◌<◌, ◌≤◌, Bool, true, false, ◌↔◌, List, [], ◌∷◌, length, Decides, MatchBool, sym, refl, ◌∙◌, subst, ⊎_elim, arith}
use Rattle.std.proofs.lemmas.Bool.{cases_lt}
use Rattle.std.proofs.lemmas.Bool.Decides.{Decides-like, same_from_decides}
use Rattle.cnf.specs.Clauses.{Assignment, truth}
use Rattle.mtl.specs.declared.row.Row.{Row}
use Rattle.mtl.specs.declared.row.Row.TheVariants.{Signal, Not, And, Or, Next, Until, Release, After, Within, Throughout, Previous, WeakPrevious, Since, Trigger, Ago, Lately, Steadily}
use Rattle.mtl.specs.declared.requirement.Requirement.{Requirement}
use Rattle.mtl.specs.declared.operator.Extra.{Extra}
use Rattle.mtl.specs.declared.operator.Extra.TheVariants.{Nothing, Seen, Ahead}
use Rattle.mtl.specs.declared.operator.Shape.{Shape}
use Rattle.mtl.specs.Formula.{Formula, Word, Course, Sat}
use Rattle.mtl.specs.Shapes.{Lits}
use Rattle.mtl.specs.Rows.{first, second, distance, operator_of, operands, extra_count}
use Rattle.mtl.specs.Lists.{block, top}
use Rattle.mtl.specs.Runs.{form, formula, Settled, SettledRow, Belongs, ExtraTells, ExtrasTell}
use Rattle.mtl.specs.Tables.{Asked, Keeps}
use Rattle.mtl.proofs.Tables.{Below, Ordered}
use Rattle.evaluate.proofs.Lifts.{closed_like}
use Rattle.evaluate.proofs.Tables.{formula-older, formula_newest}

module _ (k l : ℕ) (in' : l ≤ k) (w u : Word) where
  -- the rows below n have the same truth
  abbrev pub SameRows : (ℕ → Formula) → ℕ → Type 0
  SameRows f n = (m : ℕ) → m < n → (i : ℕ) → Sat w (f m) i ↔ Sat u (f m) i

  module _ (f : ℕ → Formula) (n : ℕ) (h : SameRows f n) where
    row_settled : (r : Row) → Below n (operands r) → ((i : ℕ) → Sat w (form f r) i ↔ Sat u (form f r) i) → SettledRow k l w f r → SettledRow k l u f r
    row_settled (Signal a) o x s = tt
    row_settled (Not a) o x s = tt
    row_settled (And a b) o x s = tt
    row_settled (Or a b) o x s = tt
    row_settled (Next a) o x s = tt
    row_settled (Until a b) o x s = tt
    row_settled (Release a b) o x s = tt
    row_settled (After a t) o x s = tt
    row_settled (Within a t) o x s = tt
    row_settled (Throughout a t) o x s = tt
    row_settled (Previous a) o x s = (closed_like k l 1 false (Sat w (f a)) (Sat u (f a)) in' (λ j c. h a o.0 j)).0 s
    row_settled (WeakPrevious a) o x s = (closed_like k l 1 true (Sat w (f a)) (Sat u (f a)) in' (λ j c. h a o.0 j)).0 s
    row_settled (Since a b) o x s = (closed_like k l 1 false (Sat w (form f (Since a b))) (Sat u (form f (Since a b))) in' (λ j c. x j)).0 s
    row_settled (Trigger a b) o x s = (closed_like k l 1 true (Sat w (form f (Trigger a b))) (Sat u (form f (Trigger a b))) in' (λ j c. x j)).0 s
    row_settled (Ago a t) o x s = (closed_like k l t false (Sat w (f a)) (Sat u (f a)) in' (λ j c. h a o.0 j)).0 s
    row_settled (Lately a t) o x s = (closed_like k l t false (Sat w (f a)) (Sat u (f a)) in' (λ j c. h a o.0 j)).0 s
    row_settled (Steadily a t) o x s = (closed_like k l t true (Sat w (f a)) (Sat u (f a)) in' (λ j c. h a o.0 j)).0 s

    module _ (α : Assignment) (e : Lits) where
      ahead_moved : (a t : ℕ) → a < n → ((i : ℕ) → i < t → Decides (truth α (e i)) (Sat w (f a) (k + 1 + i))) → (i : ℕ) → i < t → Decides (truth α (e i)) (Sat u (f a) (k + 1 + i))
      ahead_moved a t o x i c = Decides-like (truth α (e i)) (h a o (k + 1 + i)).0 (h a o (k + 1 + i)).1 (x i c)

      extras_moved : (r : Row) → Below n (operands r) → ExtrasTell k l w f α e r → ExtrasTell k l u f α e r
      extras_moved (Signal a) o x = tt
      extras_moved (Not a) o x = tt
      extras_moved (And a b) o x = tt
      extras_moved (Or a b) o x = tt
      extras_moved (Next a) o x = tt
      extras_moved (Until a b) o x = λ i c. Decides-like (truth α (e i)) (λ g. (g.0, g.1, g.2, (h b o.1.0 g.0).0 g.3)) (λ g. (g.0, g.1, g.2, (h b o.1.0 g.0).1 g.3)) (x i c)
      extras_moved (Release a b) o x = λ i c. Decides-like (truth α (e i)) (λ g. (g.0, g.1, g.2, λ q. g.3 ((h b o.1.0 g.0).1 q))) (λ g. (g.0, g.1, g.2, λ q. g.3 ((h b o.1.0 g.0).0 q))) (x i c)
      extras_moved (After a t) o x = ahead_moved a t o.0 x
      extras_moved (Within a t) o x = ahead_moved a t o.0 x
      extras_moved (Throughout a t) o x = ahead_moved a t o.0 x
      extras_moved (Previous a) o x = tt
      extras_moved (WeakPrevious a) o x = tt
      extras_moved (Since a b) o x = tt
      extras_moved (Trigger a b) o x = tt
      extras_moved (Ago a t) o x = tt
      extras_moved (Lately a t) o x = tt
      extras_moved (Steadily a t) o x = tt

  module _ (r : Row) (rs : List Row) (h : SameRows (formula (r ∷ rs)) (length (r ∷ rs))) where
    same-older : SameRows (formula rs) (length rs)
    same-older m c i = subst (λ (f : Formula). Sat w f i ↔ Sat u f i) (formula-older r rs m c) (h m (omega arith) i)

    same_newest : (i : ℕ) → Sat w (form (formula rs) r) i ↔ Sat u (form (formula rs) r) i
    same_newest i = subst (λ (f : Formula). Sat w f i ↔ Sat u f i) (formula_newest r rs (length rs) refl) (h (length rs) (omega arith) i)

  pub settled_moved : (rs : List Row) → Ordered rs → SameRows (formula rs) (length rs) → Settled k l w rs → Settled k l u rs
  settled_moved [] o h s = tt
  settled_moved (r ∷ rs) o h s = (settled_moved rs o.0 (same-older r rs h) s.0, row_settled (formula rs) (length rs) (same-older r rs h) r o.1 (same_newest r rs h) s.1)

  pub belongs_moved : (α : Assignment) (rs : List Row) → Ordered rs → SameRows (formula rs) (length rs) → Belongs k l w α rs → Belongs k l u α rs
  belongs_moved α [] o h b = b
  belongs_moved α (r ∷ rs) o h b = (
    belongs_moved α rs o.0 (same-older r rs h) b.0,
    (λ i c. Decides-like (truth α (block (top k rs) i)) (same_newest r rs h i).0 (same_newest r rs h i).1 (b.1 i c)),
    extras_moved (formula rs) (length rs) (same-older r rs h) α (block (top k rs + suc k)) r o.1 b.2,
  )

  when_moved : (v : Bool) (A B : Type 0) → A ↔ B → MatchBool v A (A → ⊥) → MatchBool v B (B → ⊥)
  when_moved true A B f x = f.0 x
  when_moved false A B f x = λ b. x (f.1 b)

  pub keeps_moved : (rs : List Row) (qs : List Requirement) → Asked k (length rs) qs → SameRows (formula rs) (length rs) → Keeps w rs qs → Keeps u rs qs
  keeps_moved rs [] a h s = tt
  keeps_moved rs (q ∷ qs) a h s = (
    when_moved q.value (Sat w (formula rs q.row) q.instant) (Sat u (formula rs q.row) q.instant) (h q.row a.0 q.instant) s.0,
    keeps_moved rs qs a.2 h s.1,
  )

-- two assignments that belong to one run give each variable the same
module _ (k l : ℕ) (w : Word) (α β : Assignment) where
  extra-same : (n : ℕ) (A B : Course) (t : ℕ) (s : Shape) (e : Extra) → ExtraTells k l α (block n) A B t s e → ExtraTells k l β (block n) A B t s e → (i : ℕ) → i < extra_count k t e → α (n + i) ≡ β (n + i)
  extra-same n A B t s Nothing x y i c = absurd (omega arith)
  extra-same n A B t s Seen x y i c = same_from_decides (α (n + i)) (β (n + i)) (x i c) (y i c)
  extra-same n A B t s Ahead x y i c = same_from_decides (α (n + i)) (β (n + i)) (x i c) (y i c)

  pub belongs_same : (rs : List Row) → Belongs k l w α rs → Belongs k l w β rs → (v : ℕ) → 1 ≤ v → v < top k rs → α v ≡ β v
  belongs_same [] x y v o c = ⊎_elim low high (cases_lt v (k + 2))
    where
      low : v < k + 2 → α v ≡ β v
      low d = let e : suc (v - 1) ≡ v = omega arith in subst (λ n. α n ≡ β n) e ((x (v - 1) (omega arith)).0 ∙ sym (y (v - 1) (omega arith)).0)

      high : k + 2 ≤ v → α v ≡ β v
      high d = let e : k + 2 + (v - (k + 2)) ≡ v = omega arith in subst (λ n. α n ≡ β n) e ((x (v - (k + 2)) (omega arith)).1 ∙ sym (y (v - (k + 2)) (omega arith)).1)
  belongs_same (r ∷ rs) x y v o c = ⊎_elim (λ d. belongs_same rs x.0 y.0 v o d) (λ d. ⊎_elim (mid d) high (cases_lt v (top k rs + suc k))) (cases_lt v (top k rs))
    where
      mid : top k rs ≤ v → v < top k rs + suc k → α v ≡ β v
      mid d e =
          let i = v - top k rs in
          let z : top k rs + (v - top k rs) ≡ v = omega arith in
          subst (λ n. α n ≡ β n) z (same_from_decides (α (top k rs + (v - top k rs))) (β (top k rs + (v - top k rs))) (x.1 (v - top k rs) (omega arith)) (y.1 (v - top k rs) (omega arith)))

      high : top k rs + suc k ≤ v → α v ≡ β v
      high d =
          let z : top k rs + suc k + (v - (top k rs + suc k)) ≡ v = omega arith in
          subst (λ n. α n ≡ β n) z
          (extra-same (top k rs + suc k) (Sat w (formula rs (first r))) (Sat w (formula rs (second r))) (distance r) (operator_of r).shape (operator_of r).extra x.2 y.2 (v - (top k rs + suc k)) (omega arith))
