-- Every settled run has an assignment that belongs to it; so the truth of every row goes round with the loop.
use Rattle.std.proofs.Common.{◌≡◌, ℕ, suc, ◌+◌, ◌-◌, ◌<◌, ◌≤◌, Bool, false, cond, eqb, ltb, leb, List, [], ◌∷◌, reverse, length, sym, ap, ◌∙◌, arith}
use native.Mathlib.Nat.{add-mod_left}
use Rattle.std.proofs.lemmas.Bool.{cond-true, cond-false, lt-ltb, le-ltb}
use Rattle.std.proofs.lemmas.List.{length-reverse}
use Rattle.std.proofs.lemmas.Bool.Decides.{Decides-at}
use Rattle.cnf.specs.Clauses.{Assignment, asserted, truth}
use Rattle.mtl.specs.declared.row.Row.{Row}
use Rattle.mtl.specs.declared.operator.Extra.{Extra}
use Rattle.mtl.specs.declared.operator.Extra.TheVariants.{Nothing, Seen, Ahead}
use Rattle.mtl.specs.declared.operator.Shape.{Shape}
use Rattle.mtl.specs.Formula.{Word, Course, Sat}
use Rattle.mtl.specs.Shapes.{Lits}
use Rattle.mtl.specs.Rows.{first, second, distance, operator_of, extra_count}
use Rattle.mtl.specs.Lists.{block, period, top, value}
use Rattle.mtl.specs.Runs.{endless_word, lasso, word, form, formula, Settled, Tells, ExtraTells, Marks, Belongs}
use Rattle.mtl.specs.Statements.{Witnessed, Satisfiable, Periodic}
use Rattle.mtl.proofs.Lasso.{lasso_loop}
use Rattle.mtl.proofs.Loops.{circular}
use Rattle.mtl.proofs.Closing.{tests}
use Rattle.mtl.proofs.Tables.{Ordered, ordered}
use Rattle.mtl.proofs.Exact.{exact, complete, marks_of}
use Rattle.mtl.proofs.Values.{row_value, row_true, extra_true}

-- what is told by equal literals
tells_moved : (α β : Assignment) (x y : Lits) (n : ℕ) (S : Course) → ((i : ℕ) → i < n → truth β (y i) ≡ truth α (x i)) → Tells α x n S → Tells β y n S
tells_moved α β x y n S e t i c = Decides-at (truth β (y i)) (truth α (x i)) (e i c) (t i c)

extra_moved : (k l : ℕ) (α β : Assignment) (x y : Lits) (A B : Course) (t : ℕ) (s : Shape) (e : Extra) → ((i : ℕ) → i < extra_count k t e → truth β (y i) ≡ truth α (x i)) → ExtraTells k l α x A B t s e → ExtraTells k l β y A B t s e
extra_moved k l α β x y A B t s Nothing h p = tt
extra_moved k l α β x y A B t s Seen h p = λ i c. Decides-at (truth β (y i)) (truth α (x i)) (h i c) (p i c)
extra_moved k l α β x y A B t s Ahead h p = λ i c. Decides-at (truth β (y i)) (truth α (x i)) (h i c) (p i c)

-- only the variables below the top count
belongs_moved : (k l : ℕ) (w : Word) (α β : Assignment) (rs : List Row) → ((v : ℕ) → v < top k rs → β v ≡ α v) → Belongs k l w α rs → Belongs k l w β rs
belongs_moved k l w α β [] h b = λ i c. (h (suc i) (omega arith) ∙ (b i c).0, h (k + 2 + i) (omega arith) ∙ (b i c).1)
belongs_moved k l w α β (r ∷ rs) h b = (
  belongs_moved k l w α β rs (λ v c. h v (omega arith)) b.0,
  tells_moved α β (block (top k rs)) (block (top k rs)) (suc k) (Sat w (form (formula rs) r)) (λ i c. h (top k rs + i) (omega arith)) b.1,
  extra_moved k l α β (block (top k rs + suc k)) (block (top k rs + suc k)) (Sat w (formula rs (first r))) (Sat w (formula rs (second r))) (distance r) (operator_of r).shape (operator_of r).extra
      (λ i c. h (top k rs + suc k + i) (omega arith)) b.2,
)

-- α below n, then m values of x, then e
abbrev joined : Assignment → ℕ → (ℕ → Bool) → ℕ → (ℕ → Bool) → Assignment
joined α n x m e v = cond (ltb v n) (α v) (cond (ltb v (n + m)) (x (v - n)) (e (v - (n + m))))

module _ (α : Assignment) (n : ℕ) (x : ℕ → Bool) (m : ℕ) (e : ℕ → Bool) where
  joined_old : (v : ℕ) → v < n → joined α n x m e v ≡ α v
  joined_old v c = cond-true (ltb v n) (α v) (cond (ltb v (n + m)) (x (v - n)) (e (v - (n + m)))) (lt-ltb v n c)

  joined_x : (i : ℕ) → i < m → joined α n x m e (n + i) ≡ x i
  joined_x i c =
      let z : n + i - n ≡ i = omega arith in
      cond-false (ltb (n + i) n) (α (n + i)) (cond (ltb (n + i) (n + m)) (x (n + i - n)) (e (n + i - (n + m)))) (le-ltb (n + i) n (omega arith))
      ∙ cond-true (ltb (n + i) (n + m)) (x (n + i - n)) (e (n + i - (n + m))) (lt-ltb (n + i) (n + m) (omega arith)) ∙ ap x z

  joined_e : (i : ℕ) → joined α n x m e (n + m + i) ≡ e i
  joined_e i =
      let z : n + m + i - (n + m) ≡ i = omega arith in
      cond-false (ltb (n + m + i) n) (α (n + m + i)) (cond (ltb (n + m + i) (n + m)) (x (n + m + i - n)) (e (n + m + i - (n + m)))) (le-ltb (n + m + i) n (omega arith))
      ∙ cond-false (ltb (n + m + i) (n + m)) (x (n + m + i - n)) (e (n + m + i - (n + m))) (le-ltb (n + m + i) (n + m) (omega arith)) ∙ ap e z

module _ (k l : ℕ) (in' : l ≤ k) (letters : Word) where
  -- the assignment of the loop start
  marked : Assignment
  marked v = joined (λ u. eqb l (u - 1)) (k + 2) (λ i. leb l i) (suc k) (λ _. false) v

  marks : Marks k marked l
  unfolding marked
  marks i c =
      let z : suc i - 1 ≡ i = omega arith in (
        joined_old (λ u. eqb l (u - 1)) (k + 2) (λ i. leb l i) (suc k) (λ _. false) (suc i) (omega arith) ∙ ap (eqb l) z,
        joined_x (λ u. eqb l (u - 1)) (k + 2) (λ i. leb l i) (suc k) (λ _. false) i (omega arith),
      )

  witness : (rs : List Row) → Ordered rs → Settled k l (word k l letters) rs → (α : Assignment) × Belongs k l (word k l letters) α rs
  witness [] o s = (marked, marks)
  witness (r ∷ rs) o s = more (witness rs o.0 s.0)
    where
      more : ((α : Assignment) × Belongs k l (word k l letters) α rs) → (α : Assignment) × Belongs k l (word k l letters) α (r ∷ rs)
      more p =
          let α = p.0 in
          let n = top k rs in
          let v : ℕ → ℕ → Bool = λ m. tests α (value k rs m) in
          let h = (complete k l in' α (marks_of k l (word k l letters) α rs p.1) letters rs o.0 p.1 s.0).1 in
          let x = row_value k l letters v r in
          let e = extra_true k l in' letters v (formula rs) (length rs) h r o.1 in
          let β = joined α n x (suc k) e.0 in (
            β,
            (
              belongs_moved k l (word k l letters) α β rs (joined_old α n x (suc k) e.0) p.1,
              tells_moved x β asserted (block n) (suc k) (Sat (word k l letters) (form (formula rs) r)) (joined_x α n x (suc k) e.0) (row_true k l in' letters v (formula rs) (length rs) h r o.1),
              extra_moved k l e.0 β asserted (block (n + suc k)) (Sat (word k l letters) (formula rs (first r))) (Sat (word k l letters) (formula rs (second r))) (distance r) (operator_of r).shape (operator_of r).extra
                  (λ i c. joined_e α n x (suc k) e.0 i) e.1,
            ),
          )

  round : (i : ℕ) → l ≤ i → lasso k l i ≡ lasso k l (i + period k l)
  round i c =
      let e : i + period k l - l ≡ period k l + (i - l) = omega arith in
      lasso_loop k l in' i c ∙ sym (lasso_loop k l in' (i + period k l) (omega arith) ∙ rw (e, add-mod_left (period k l) (i - l)))

pub witnessed : Witnessed
witnessed k rows run o s = witness k run.loop run.bounded run.letters (reverse rows) (ordered rows o) s

pub periodic : Periodic
periodic k rows run o s n c i d =
    let l = run.loop in
    let p = witnessed k rows run o s in
    let α = p.0 in
    let m = marks_of k l (endless_word run) α (reverse rows) p.1 in
    let h = (complete k l run.bounded α m run.letters (reverse rows) (ordered rows o) p.1 s).1 n (let e = length-reverse rows in omega arith) in
    let S = Sat (endless_word run) (formula (reverse rows) n) in
    let x = tests α (value k (reverse rows) n) in
    let e = round k l run.bounded run.letters i d in
    (circular k l run.bounded x S h i (i + period k l) e, circular k l run.bounded x S h (i + period k l) i (sym e))

pub satisfiable : Satisfiable
satisfiable k rows qs law a = (
  (λ p. let q = (exact k rows qs p.0 law a).0 p.1 in (q.0, q.1)),
  λ p. let w = witnessed k rows p.0 law p.1.settled in (w.0, (exact k rows qs w.0 law a).1 (p.0, p.1, w.1)),
)
