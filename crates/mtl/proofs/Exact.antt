-- The clauses of a job hold exactly of the assignments that belong to a settled run that keeps the requirements.
use Rattle.std.proofs.Common.{◌≡◌, ℕ, suc, ◌+◌, ◌<◌, ◌≤◌, Bool, true, false, cond, ◌↔◌, List, [], ◌∷◌, ◌++◌, reverse, length, Decides, MatchBool, sym, refl, ◌∙◌, subst, ⊎_elim, arith}
use mathlib.Core.Logic.Iff
use Rattle.std.proofs.lemmas.Bool.{cases_Bool, eq-eqb, eqb-true, or_left, or_right, cond-true, cond-false, false≢true, both_ways}
use Rattle.std.proofs.lemmas.List.{length-reverse}
use Rattle.cnf.specs.Clauses.{Assignment, truth, sat_all}
use Rattle.mtl.specs.declared.row.Row.{Row}
use Rattle.mtl.specs.declared.row.Row.TheVariants.{Signal, Not, And, Or, Next, Until, Release, After, Within, Throughout, Previous, WeakPrevious, Since, Trigger, Ago, Lately, Steadily}
use Rattle.mtl.specs.declared.requirement.Requirement.{Requirement}
use Rattle.mtl.specs.Formula.{Formula, Word, Sat}
use Rattle.mtl.specs.Shapes.{Lits, given, unit}
use Rattle.mtl.specs.Rows.{operands, first, second}
use Rattle.mtl.specs.Lists.{block, begin, top, start, value, added, clauses}
use Rattle.mtl.specs.Runs.{Run, endless_word, Marks, lasso, word, form, formula, Tells, Settled, Belongs}
use Rattle.mtl.specs.Tables.{is_signal, has_signal, requires, Asked, Keeps, job}
use Rattle.mtl.specs.Statements.{Exact}
use Rattle.mtl.proofs.Shapes.{append_law, unit_law, truth-given}
use Rattle.mtl.proofs.Begin.{begin_law}
use Rattle.mtl.proofs.Lasso.{lasso_low, lasso_le}
use Rattle.mtl.proofs.Loops.{Truth, endless, truth_low}
use Rattle.mtl.proofs.Closing.{tests, alike}
use Rattle.mtl.proofs.Laws.{Law, not_row, and_row, or_row, next_row, until_row, release_row, after_row, within_row, throughout_row, previous_row, weak_previous_row, since_row, trigger_row, ago_row, lately_row, steadily_row}
use Rattle.mtl.proofs.Tables.{Below, Ordered, ordered, newest}

module _ (k l : ℕ) (in' : l ≤ k) (α : Assignment) (marks : Marks k α l) (letters : Word) where
  module _ (v : ℕ → Lits) (x e : Lits) (f : ℕ → Formula) where
    -- a signal's row says what is in the letters
    abbrev pub Reads : Row → Type 0
    Reads r = (a : ℕ) → is_signal a r ≡ true → (i : ℕ) → i ≤ k → letters i a ≡ truth α (x i)

    abbrev LawHere : Row → Type 0
    LawHere r = Law k l in' α marks (word k l letters) (v (first r)) (v (second r)) x e f r

    signal_row : (a : ℕ) → Reads (Signal a) → LawHere (Signal a)
    signal_row a h = (
      (λ _. ((λ i. ((λ t. same i ∙ t), λ t. sym (same i) ∙ t)), (tt, tt))),
      λ _. refl,
    )
      where
        same : (i : ℕ) → letters (lasso k l i) a ≡ truth α (x (lasso k l i))
        same i = h a (eq-eqb a a refl) (lasso k l i) (lasso_le k l in' i)

    -- the law of a row whose operands tell the truth all round
    pub law : (n : ℕ) → ((m : ℕ) → m < n → Truth (endless k l in' (tests α (v m))) (Sat (word k l letters) (f m))) → (r : Row) → Below n (operands r) → Reads r → LawHere r
    law n h (Signal a) o s = signal_row a s
    law n h (Not a) o s = not_row k l in' α marks (word k l letters) (v a) (v 0) x e f a (h a o.0)
    law n h (And a b) o s = and_row k l in' α marks (word k l letters) (v a) (v b) x e f a b (h a o.0) (h b o.1.0)
    law n h (Or a b) o s = or_row k l in' α marks (word k l letters) (v a) (v b) x e f a b (h a o.0) (h b o.1.0)
    law n h (Next a) o s = next_row k l in' α marks (word k l letters) (v a) (v 0) x e f a (h a o.0)
    law n h (Until a b) o s = until_row k l in' α marks (word k l letters) (v a) (v b) x e f a b (h a o.0) (h b o.1.0)
    law n h (Release a b) o s = release_row k l in' α marks (word k l letters) (v a) (v b) x e f a b (h a o.0) (h b o.1.0)
    law n h (After a t) o s = after_row k l in' α marks (word k l letters) (v a) (v 0) x e f a t (h a o.0)
    law n h (Within a t) o s = within_row k l in' α marks (word k l letters) (v a) (v 0) x e f a t (h a o.0)
    law n h (Throughout a t) o s = throughout_row k l in' α marks (word k l letters) (v a) (v 0) x e f a t (h a o.0)
    law n h (Previous a) o s = previous_row k l in' α marks (word k l letters) (v a) (v 0) x e f a (h a o.0)
    law n h (WeakPrevious a) o s = weak_previous_row k l in' α marks (word k l letters) (v a) (v 0) x e f a (h a o.0)
    law n h (Since a b) o s = since_row k l in' α marks (word k l letters) (v a) (v b) x e f a b (h a o.0) (h b o.1.0)
    law n h (Trigger a b) o s = trigger_row k l in' α marks (word k l letters) (v a) (v b) x e f a b (h a o.0) (h b o.1.0)
    law n h (Ago a t) o s = ago_row k l in' α marks (word k l letters) (v a) (v 0) x e f a t (h a o.0)
    law n h (Lately a t) o s = lately_row k l in' α marks (word k l letters) (v a) (v 0) x e f a t (h a o.0)
    law n h (Steadily a t) o s = steadily_row k l in' α marks (word k l letters) (v a) (v 0) x e f a t (h a o.0)

    -- a signal's row that tells the truth reads the letters
    pub reads : (r : Row) → Tells α x (suc k) (Sat (word k l letters) (form f r)) → Reads r
    reads (Signal b) t a s i c =
        let q = eqb-true a b s in
        let d : Decides (truth α (x i)) (letters i a ≡ true) = subst (λ m. Decides (truth α (x i)) (letters m a ≡ true)) (lasso_low k l in' i c) (subst (λ m. Decides (truth α (x i)) (letters (lasso k l i) m ≡ true)) (sym q) (t i (omega arith))) in
        alike (letters i a) (truth α (x i)) d.1 d.0
    reads (Not b) t a s i c = absurd (false≢true s)
    reads (And b d) t a s i c = absurd (false≢true s)
    reads (Or b d) t a s i c = absurd (false≢true s)
    reads (Next b) t a s i c = absurd (false≢true s)
    reads (Until b d) t a s i c = absurd (false≢true s)
    reads (Release b d) t a s i c = absurd (false≢true s)
    reads (After b d) t a s i c = absurd (false≢true s)
    reads (Within b d) t a s i c = absurd (false≢true s)
    reads (Throughout b d) t a s i c = absurd (false≢true s)
    reads (Previous b) t a s i c = absurd (false≢true s)
    reads (WeakPrevious b) t a s i c = absurd (false≢true s)
    reads (Since b d) t a s i c = absurd (false≢true s)
    reads (Trigger b d) t a s i c = absurd (false≢true s)
    reads (Ago b d) t a s i c = absurd (false≢true s)
    reads (Lately b d) t a s i c = absurd (false≢true s)
    reads (Steadily b d) t a s i c = absurd (false≢true s)

  -- every row of the table tells the truth, at every instant
  abbrev pub AllKnown : List Row → Type 0
  AllKnown rs = (n : ℕ) → n < length rs → Truth (endless k l in' (tests α (value k rs n))) (Sat (word k l letters) (formula rs n))

  known_more : (r : Row) (rs : List Row) → AllKnown rs → Truth (endless k l in' (tests α (block (top k rs)))) (Sat (word k l letters) (form (formula rs) r)) → AllKnown (r ∷ rs)
  known_more r rs h t n c =
      newest (λ b. Truth (λ i. truth α (block (cond b (top k rs) (start k rs n)) (lasso k l i))) (Sat (word k l letters) (cond b (form (formula rs) r) (formula rs n))))
      n (length rs) c (λ e. t) (λ b. h n b)

  -- every signal's row of the table reads the letters
  abbrev AllRead : List Row → Type 0
  AllRead [] = Unit {0}
  AllRead (r ∷ rs) = AllRead rs × ((a : ℕ) → is_signal a r ≡ true → (i : ℕ) → i ≤ k → letters i a ≡ truth α (block (top k rs) i))

  -- the law of a row that comes after the rows rs
  law_after : (r : Row) (rs : List Row) → AllKnown rs → Below (length rs) (operands r) → Reads (value k rs) (block (top k rs)) (block (top k rs + suc k)) (formula rs) r → LawHere (value k rs) (block (top k rs)) (block (top k rs + suc k)) (formula rs) r
  law_after r rs h o s = law (value k rs) (block (top k rs)) (block (top k rs + suc k)) (formula rs) (length rs) h r o s

  sound : (rs : List Row) → Ordered rs → AllRead rs → sat_all α (clauses k rs) ≡ true → Belongs k l (word k l letters) α rs × Settled k l (word k l letters) rs × AllKnown rs
  sound [] o s h = (marks, tt, λ n c. absurd (omega arith))
  sound (r ∷ rs) o s h = let c = (append_law α (clauses k rs) (added k rs r)).0 h in more c.1 (sound rs o.0 s.0 c.0)
    where
      more : sat_all α (added k rs r) ≡ true → Belongs k l (word k l letters) α rs × Settled k l (word k l letters) rs × AllKnown rs → Belongs k l (word k l letters) α (r ∷ rs) × Settled k l (word k l letters) (r ∷ rs) × AllKnown (r ∷ rs)
      more c ih =
          let q = (law_after r rs ih.2 o.1 s.1).0 c in (
            (ih.0, truth_low k l in' (tests α (block (top k rs))) (Sat (word k l letters) (form (formula rs) r)) q.0, q.1.0),
            (ih.1, q.1.1),
            known_more r rs ih.2 q.0,
          )

  pub complete : (rs : List Row) → Ordered rs → Belongs k l (word k l letters) α rs → Settled k l (word k l letters) rs → (sat_all α (clauses k rs) ≡ true) × AllKnown rs
  complete [] o b s = (refl, λ n c. absurd (omega arith))
  complete (r ∷ rs) o b s = more (complete rs o.0 b.0 s.0)
    where
      more : (sat_all α (clauses k rs) ≡ true) × AllKnown rs → (sat_all α (clauses k (r ∷ rs)) ≡ true) × AllKnown (r ∷ rs)
      more ih =
          let q = law_after r rs ih.1 o.1 (reads (value k rs) (block (top k rs)) (block (top k rs + suc k)) (formula rs) r b.1) in
          let c = q.1 (b.1, (b.2, s.1)) in
          ((append_law α (clauses k rs) (added k rs r)).1 (ih.0, c), known_more r rs ih.1 (q.0 c).0)

  kept : (rs : List Row) → AllKnown rs → (qs : List Requirement) → Asked k (length rs) qs → (sat_all α (requires k rs qs) ≡ true) ↔ Keeps (word k l letters) rs qs
  kept rs h [] o = ((λ _. tt), λ _. refl)
  kept rs h (q ∷ qs) o =
      Iff.trans (append_law α (unit (given q.value (value k rs q.row q.instant))) (requires k rs qs))
      (Iff.and (Iff.trans (unit_law α (given q.value (value k rs q.row q.instant))) (Iff.trans (truth-given α q.value (value k rs q.row q.instant)) (told (truth α (value k rs q.row q.instant)) q.value (Sat (word k l letters) (formula rs q.row) q.instant) d)))
      (kept rs h qs o.2))
    where
      d : Decides (truth α (value k rs q.row q.instant)) (Sat (word k l letters) (formula rs q.row) q.instant)
      d = truth_low k l in' (tests α (value k rs q.row)) (Sat (word k l letters) (formula rs q.row)) (h q.row o.0) q.instant (omega arith)

      told : (p v : Bool) (S : Type 0) → Decides p S → (p ≡ v) ↔ MatchBool v S (S → ⊥)
      told p true S d = d
      told p false S d = ((λ e y. both_ways p e (d.1 y)), λ f. ⊎_elim (λ t. absurd (f (d.0 t))) (λ t. t) (cases_Bool p))

-- the loop start that an assignment that belongs to a run shows
pub marks_of : (k l : ℕ) (w : Word) (α : Assignment) (rs : List Row) → Belongs k l w α rs → Marks k α l
marks_of k l w α [] b = b
marks_of k l w α (r ∷ rs) b = marks_of k l w α rs b.0

-- the letters that an assignment shows
abbrev pub read : ℕ → Assignment → List Row → Word
read k α [] i a = false
read k α (r ∷ rs) i a = cond (is_signal a r) (truth α (block (top k rs) i)) (read k α rs i a)

module _ (k l : ℕ) (in' : l ≤ k) (α : Assignment) (marks : Marks k α l) (letters : Word) where
  all_read : (rs : List Row) → Ordered rs → ((i a : ℕ) → has_signal a rs ≡ true → letters i a ≡ read k α rs i a) → AllRead k l in' α marks letters rs
  all_read [] o h = tt
  all_read (r ∷ rs) o h = (
    all_read rs o.0 (λ i a s. h i a (or_right (is_signal a r) (has_signal a rs) s) ∙ cond-false (is_signal a r) (truth α (block (top k rs) i)) (read k α rs i a) (other a s)),
    λ a s i c. h i a (or_left (is_signal a r) (has_signal a rs) s) ∙ cond-true (is_signal a r) (truth α (block (top k rs) i)) (read k α rs i a) s,
  )
    where
      other : (a : ℕ) → has_signal a rs ≡ true → is_signal a r ≡ false
      other a s = ⊎_elim (λ t. absurd (both_ways (has_signal a rs) (o.2 a t) s)) (λ t. t) (cases_Bool (is_signal a r))

-- the same with the newest row first
module _ (k : ℕ) (rs : List Row) (qs : List Requirement) (α : Assignment) (o : Ordered rs) (asked : Asked k (length rs) qs) where
  abbrev Shown : Run k → Type 0
  Shown run = Settled k run.loop (endless_word run) rs × Keeps (endless_word run) rs qs × Belongs k run.loop (endless_word run) α rs

  shown : sat_all α (job k rs qs) ≡ true → (run : Run k) × Shown run
  shown h =
      let c = (append_law α (begin k ++ clauses k rs) (requires k rs qs)).0 h in
      let d = (append_law α (begin k) (clauses k rs)).0 c.0 in
      let m = (begin_law α k).0 d.0 in
      let letters = read k α rs in
      let s = sound k m.0 m.1 α m.2 letters rs o (all_read k m.0 m.1 α m.2 letters rs o (λ i a t. refl)) d.1 in
      (record { loop = m.0; bounded = m.1; letters = letters }, (s.1, (kept k m.0 m.1 α m.2 letters rs s.2 qs asked).0 c.1, s.0))

  satisfies : (run : Run k) → Shown run → sat_all α (job k rs qs) ≡ true
  satisfies run p =
      let m = marks_of k run.loop (endless_word run) α rs p.2 in
      let c = complete k run.loop run.bounded α m run.letters rs o p.2 p.0 in
      (append_law α (begin k ++ clauses k rs) (requires k rs qs)).1 (
        (append_law α (begin k) (clauses k rs)).1 ((begin_law α k).1 (run.loop, run.bounded, m), c.0),
        (kept k run.loop run.bounded α m run.letters rs c.1 qs asked).1 p.1,
      )

pub exact : Exact
exact k rows qs α law a =
    let rs = reverse rows in
    let o = ordered rows law in
    let asked = subst (λ n. Asked k n qs) (sym (length-reverse rows)) a in (
      (λ h. let p = shown k rs qs α o asked h in (p.0, record { settled = p.1.0; keeps = p.1.1 }, p.1.2)),
      λ p. satisfies k rs qs α o asked p.0 (p.1.settled, p.1.keeps, p.2),
    )
