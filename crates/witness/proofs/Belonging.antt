-- An area that is laid from lines that tell the truth has the assignment of the run.
use Rattle.std.proofs.Common.{◌≡◌, ℕ, zero, suc, ◌+◌, ◌-◌, ◌<◌, ◌≤◌, Bool, true, eqb, leb, ◌↔◌, List, [], ◌∷◌, reverse, length, Decides, sym, ap, subst, ⊎_elim, arith}
use Rattle.std.proofs.lemmas.Bool.{cases_Bool, both_ways, eq-eqb, eqb-true, le-leb, leb-true}
use Rattle.std.proofs.lemmas.Bool.Decides.{Decides-like, same_from_decides}
use Rattle.std.proofs.lemmas.List.{take_all}
use Rattle.sinks.specs.Models.{assigned}
use Rattle.mtl.specs.declared.row.Row.{Row}
use Rattle.mtl.specs.declared.operator.Extra.{Extra}
use Rattle.mtl.specs.declared.operator.Extra.TheVariants.{Nothing, Seen, Ahead}
use Rattle.mtl.specs.declared.operator.Shape.{Shape}
use Rattle.mtl.specs.declared.operator.Shape.TheVariants.{Free, Same, Both, Either, Upto, Hold, Any, All}
use Rattle.mtl.specs.Formula.{Formula, Sat}
use Rattle.mtl.specs.Rows.{first, second, distance, operator_of}
use Rattle.mtl.specs.Lists.{block, top}
use Rattle.mtl.specs.Runs.{lasso, word, formula, Belongs, Sought, ExtraTells, Marks}
use Rattle.mtl.specs.Tables.{lawful}
use Rattle.mtl.proofs.Tables.{top_least}
use Rattle.evaluate.specs.Letters.{has}
use Rattle.evaluate.specs.Bits.{bit}
use Rattle.evaluate.specs.Lines.{line, Ready}
use Rattle.evaluate.specs.Truths.{row_at, older, cell, Known, Written}
use Rattle.evaluate.proofs.Tables.{older_more, older-length, known-below, written_all, ready}
use Rattle.witness.specs.Blocks.{sought, ExtraTold, Laid}
use Rattle.witness.proofs.Laying.{Reads, reads}

-- what E looks for, in the byte that tells B
yes_iff : (b : Bool) (B : Type 0) → Decides b B → (b ≡ true) ↔ B
yes_iff b B d = (d.0, d.1)

sought_iff : (s : Shape) (b : Bool) (B : Type 0) → Decides b B → (b ≡ sought s) ↔ Sought s B
sought_iff Free b B d = yes_iff b B d
sought_iff Same b B d = yes_iff b B d
sought_iff Both b B d = yes_iff b B d
sought_iff Either b B d = yes_iff b B d
sought_iff Upto b B d = yes_iff b B d
sought_iff Hold b B d = ((λ e p. both_ways b e (d.1 p)), λ f. ⊎_elim (λ e. absurd (f (d.0 e))) (λ e. e) (cases_Bool b))
sought_iff Any b B d = yes_iff b B d
sought_iff All b B d = yes_iff b B d

module _ (k l : ℕ) (in' : l ≤ k) (letters : List ℕ) (work area : List ℕ) where
  -- the extra bytes say what the extra variables stand for
  extra-said : (f : ℕ → Formula) (n a u : ℕ) → a + 1 ≡ u → ((m : ℕ) → m < n → (i : ℕ) → Decides (cell k work m (lasso k l i)) (Sat (word k l (has letters)) (f m) i)) → (p q t : ℕ) (s : Shape) (e : Extra) → Reads n p q e → ExtraTold k l area a (line k work p) (line k work q) t s e → ExtraTells k l (assigned area) (block u) (Sat (word k l (has letters)) (f p)) (Sat (word k l (has letters)) (f q)) t s e
  extra-said f n a u e h p q t s Nothing o x = tt
  extra-said f n a u e h p q t s Seen o x = λ i d.
      let z : u + i - 1 ≡ a + i = omega arith in
      let one = λ (j : ℕ). sought_iff s (cell k work q (lasso k l j)) (Sat (word k l (has letters)) (f q) j) (h q o j) in
      rw z (Decides-like (bit area (a + i)) (λ g. (g.0, g.1, g.2, (one g.0).0 g.3)) (λ g. (g.0, g.1, g.2, (one g.0).1 g.3)) (x i (omega arith)))
  extra-said f n a u e h p q t s Ahead o x = λ i d.
      let z : u + i - 1 ≡ a + i = omega arith in
      rw z (Decides-like (bit area (a + i)) (h p o (k + 1 + i)).0 (h p o (k + 1 + i)).1 (x i d))

  marked : Laid k l work area [] → Marks k (assigned area) l
  marked h i c =
      let z : suc i - 1 ≡ 0 + i = omega arith in
      let y : k + 2 + i - 1 ≡ k + 1 + i = omega arith in (
        rw z (same_from_decides (bit area (0 + i)) (eqb l i) (h.0 i (omega arith)) (eqb-true l i, eq-eqb l i)),
        rw y (same_from_decides (bit area (k + 1 + i)) (leb l i) (h.1 i (omega arith)) (leb-true l i, le-leb l i)),
      )

  -- every row's line tells the truth, and its operands' all round
  abbrev KnownAll : List Row → Type 0
  KnownAll [] = Unit {0}
  KnownAll (r ∷ rs) =
      KnownAll rs × (Known k l letters rs work (length rs) × Ready (length rs) r × Written k l letters rs work (length rs) r (k + 1))

  laid_belongs : (rs : List Row) → KnownAll rs → Laid k l work area rs → Belongs k l (word k l (has letters)) (assigned area) rs
  laid_belongs [] q h = marked h
  laid_belongs (r ∷ rs) q h =
      let t = top_least k rs in (
        laid_belongs rs q.0 h.0,
        (λ i c.
            let z : top k rs + i - 1 ≡ top k rs - 1 + i = omega arith in
            let d = q.1.2 i (omega arith) in
            rw z (Decides-like (bit area (top k rs - 1 + i)) d.0 d.1 (h.1.0 i (omega arith)))),
        extra-said (formula rs) (length rs) (top k rs - 1 + (k + 1)) (top k rs + suc k) (omega arith) q.1.0 (first r) (second r) (distance r) (operator_of r).shape (operator_of r).extra
            (reads (length rs) r q.1.1) h.1.1,
      )

  pub run_belongs : (rows : List Row) → lawful rows ≡ true → Known k l letters (reverse rows) work (length rows) → Laid k l work area (reverse rows) → Belongs k l (word k l (has letters)) (assigned area) (reverse rows)
  run_belongs rows law q h =
      let e : older rows (length rows) ≡ reverse rows = ap reverse (take_all (length rows) rows (omega arith)) in
      laid_belongs (reverse rows) (subst (λ (rs : List Row). KnownAll rs) e (alls (length rows) (omega arith))) h
    where
      alls : (n : ℕ) → n ≤ length rows → KnownAll (older rows n)
      alls zero c = tt
      alls (suc n) c =
          let z = older-length rows n (omega arith) in
          let y : suc n ≡ n + 1 = omega arith in
          subst (λ m. KnownAll (older rows m)) (sym y)
          (subst (λ (rs : List Row). KnownAll rs) (sym (older_more rows n (omega arith))) (
            alls n (omega arith),
            subst (λ m. Known k l letters (older rows n) work m × Ready m (row_at rows n) × Written k l letters (older rows n) work m (row_at rows n) (k + 1)) (sym z)
                (known-below k l in' letters rows work q n (omega arith), ready rows law n (omega arith), written_all k l in' letters rows work q n (omega arith)),
          ))
