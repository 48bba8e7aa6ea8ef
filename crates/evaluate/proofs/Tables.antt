-- The rows of a table, one after the other. `older` has the newest row first.
use Rattle.std.proofs.Common.{◌≡◌, ℕ, zero, suc, ◌+◌, ◌-◌, ◌<◌, ◌≤◌, Bool, true, cond, not, ◌&&◌, eqb, ltb, leb, List, [], ◌∷◌, reverse, length, take, Some, None, Decides, Option, sym, ap, ◌∙◌, subst, arith, length-take}
use Rattle.std.proofs.lemmas.Bool.{eq-eqb, ne_eqb, cond-true, cond-false, and_parts, leb-true, ltb-true}
use Rattle.std.proofs.lemmas.Bool.Decides.{Decides-like}
use Rattle.std.proofs.lemmas.List.{take_all, take_more, reverse-append, reverse-reverse, length-reverse}
use Rattle.mtl.specs.declared.row.Row.{Row}
use Rattle.mtl.specs.declared.row.Row.TheVariants.{Signal}
use Rattle.mtl.specs.Formula.{Formula, Word, Sat}
use Rattle.mtl.specs.Rows.{operands, distance, signal_of}
use Rattle.mtl.specs.Lists.{value}
use Rattle.mtl.specs.Runs.{Run, lasso, word, formula, form, Settled, SettledRow}
use Rattle.mtl.specs.Tables.{all_below, has_signal, is_new, fits_after, lawful}
use Rattle.mtl.proofs.Lasso.{lasso_low}
use Rattle.mtl.proofs.Loops.{Circular, circular, all_round}
use Rattle.mtl.proofs.Closing.{tests}
use Rattle.mtl.proofs.Tables.{ordered, lawful_push, reverse_cons, newest}
use Rattle.mtl.proofs.Exact.{complete, marks_of}
use Rattle.mtl.proofs.Witness.{witnessed}
use Rattle.evaluate.specs.Letters.{has}
use Rattle.evaluate.specs.Lines.{line, Meant, Closing, Below, Low, Ready}
use Rattle.evaluate.specs.Truths.{row_at, older, cell, Known, Written}
use Rattle.evaluate.proofs.Lifts.{meant, settled}

pub older_more : (rows : List Row) (n : ℕ) → n < length rows → older rows (n + 1) ≡ row_at rows n ∷ older rows n
older_more rows n h = ap reverse (take_more rows n (Signal 0) h) ∙ reverse-append (take n rows) (row_at rows n ∷ [])

pub older-length : (rows : List Row) (n : ℕ) → n ≤ length rows → length (older rows n) ≡ n
older-length rows n h = length-reverse (take n rows) ∙ rw length-take (omega arith)

-- what holds of a table and goes on to what is left of it holds of its first n rows
pub older-down : (P : List Row → ℕ → Type 0) (rows : List Row) → ((n : ℕ) → n < length rows → P (row_at rows n ∷ older rows n) (n + 1) → P (older rows n) n) → (d n : ℕ) → n + d ≡ length rows → P (reverse rows) (length rows) → P (older rows n) n
older-down P rows f zero n e p =
    let z : n ≡ length rows = omega arith in
    subst (λ m. P (older rows n) m) (sym z) (subst (λ (rs : List Row). P rs (length rows)) (sym (ap reverse (take_all n rows (omega arith)))) p)
older-down P rows f (suc d) n e p =
    f n (omega arith) (subst (λ (rs : List Row). P rs (n + 1)) (older_more rows n (omega arith)) (older-down P rows f d (n + 1) (omega arith) p))

pub settled_row : (k l : ℕ) (w : Word) (rows : List Row) (n : ℕ) → n < length rows → Settled k l w (reverse rows) → SettledRow k l w (formula (older rows n)) (row_at rows n)
settled_row k l w rows n h s =
    (subst (λ (rs : List Row). Settled k l w rs) (older_more rows n h)
    (older-down (λ rs _. Settled k l w rs) rows (λ m c q. q.0) (length rows - (n + 1)) (n + 1) (omega arith) s)).1

-- what a row's law says of it
module _ (rs : List Row) (r : Row) (n : ℕ) (len : length rs ≡ n) where
  below : (ms : List ℕ) → all_below (length rs) ms ≡ true → Below n ms
  below [] e = tt
  below (m ∷ ms) e = let p = and_parts (ltb m (length rs)) (all_below (length rs) ms) e in let q = ltb-true m (length rs) p.0 in (omega arith, below ms p.1)

  low : (o : Option ℕ) → is_new rs o ≡ true → Low o
  low None e = tt
  low (Some a) e = leb-true a 31 (and_parts (leb a 31) (not (has_signal a rs)) e).0

  ready_from : fits_after rs r ≡ true → Ready n r
  ready_from e =
      let p = and_parts (all_below (length rs) (operands r) && leb (distance r) 31) (is_new rs (signal_of r)) e in
      let q = and_parts (all_below (length rs) (operands r)) (leb (distance r) 31) p.0 in
      (below (operands r) q.0, leb-true (distance r) 31 q.1, low (signal_of r) p.1)

module _ (rows : List Row) (law : lawful rows ≡ true) where
  pub law_to : (n : ℕ) → n ≤ length rows → lawful (take n rows) ≡ true
  law_to n h =
      sym (ap lawful (reverse-reverse (take n rows)))
      ∙ older-down (λ rs _. lawful (reverse rs) ≡ true) rows
      (λ m c q. (and_parts (lawful (reverse (older rows m))) (fits_after (reverse (older rows m)) (row_at rows m)) (parts m q)).0)
      (length rows - n) n (omega arith) (ap lawful (reverse-reverse rows) ∙ law)
    where
      parts : (m : ℕ) → lawful (reverse (row_at rows m ∷ older rows m)) ≡ true → (lawful (reverse (older rows m)) && fits_after (reverse (older rows m)) (row_at rows m)) ≡ true
      parts m q = sym (ap lawful (reverse_cons (row_at rows m) (older rows m)) ∙ lawful_push (reverse (older rows m)) (row_at rows m)) ∙ q

  pub ready : (n : ℕ) → n < length rows → Ready n (row_at rows n)
  ready n h =
      let len : length (take n rows) ≡ n = rw length-take (omega arith) in
      let more = sym (ap lawful (take_more rows n (Signal 0) h) ∙ lawful_push (take n rows) (row_at rows n)) ∙ law_to (n + 1) (omega arith) in
      ready_from (take n rows) (row_at rows n) n len (and_parts (lawful (take n rows)) (fits_after (take n rows) (row_at rows n)) more).1

-- on a settled run every row goes round with the loop
circles : (k l : ℕ) (in' : l ≤ k) (letters : Word) (rows : List Row) → lawful rows ≡ true → Settled k l (word k l letters) (reverse rows) → (n : ℕ) → n < length rows → Circular k l in' (Sat (word k l letters) (formula (reverse rows) n))
circles k l in' letters rows law s n c =
    let run : Run k = record { loop = l; bounded = in'; letters = letters } in
    let p = witnessed k rows run law s in
    let α = p.0 in
    let m = marks_of k l (word k l letters) α (reverse rows) p.1 in
    let h = (complete k l in' α m letters (reverse rows) (ordered rows law) p.1 s).1 n (let e = length-reverse rows in omega arith) in
    circular k l in' (tests α (value k (reverse rows) n)) (Sat (word k l letters) (formula (reverse rows) n)) h

pub formula-older : (r : Row) (rs : List Row) (m : ℕ) → m < length rs → formula (r ∷ rs) m ≡ formula rs m
formula-older r rs m h = cond-false (eqb m (length rs)) (form (λ j. formula rs j) r) (formula rs m) (ne_eqb m (length rs) (λ q. omega arith))

pub formula_newest : (r : Row) (rs : List Row) (n : ℕ) → length rs ≡ n → formula (r ∷ rs) n ≡ form (formula rs) r
formula_newest r rs n e = cond-true (eqb n (length rs)) (form (λ j. formula rs j) r) (formula rs n) (eq-eqb n (length rs) (sym e))

module _ (k l : ℕ) (in' : l ≤ k) (letters : List ℕ) (work : List ℕ) where
  -- a value that is right over the lines is right
  pub value_right : (rs : List Row) (n : ℕ) → Known k l letters rs work n → (r : Row) → Below n (operands r) → (i : ℕ) → i ≤ k → (b : Bool) → Decides b (Meant k l letters (line k work) r i) → Decides b (Sat (word k l (has letters)) (form (formula rs) r) i)
  value_right rs n h r o i c b d = let q = meant k l in' letters (line k work) (formula rs) n h r o i c in Decides-like b q.0 q.1 d

  pub settled_right : (rs : List Row) (n : ℕ) → Known k l letters rs work n → (r : Row) → Below n (operands r) → Written k l letters rs work n r (k + 1) → (b : Bool) → Decides b (Closing k l (line k work) (line k work n) r) → Decides b (SettledRow k l (word k l (has letters)) (formula rs) r)
  settled_right rs n h r o t b d =
      let q = settled k l in' letters (line k work) (formula rs) n h r o (line k work n) (λ i c. t i (omega arith)) in
      Decides-like b q.0 q.1 d

  abbrev Says : ℕ → Formula → Type 0
  Says m f = (i : ℕ) → Decides (cell k work m (lasso k l i)) (Sat (word k l (has letters)) f i)

  -- one row more
  pub known_more : (rows : List Row) → lawful rows ≡ true → (n : ℕ) → n < length rows → Known k l letters (older rows n) work n → Written k l letters (older rows n) work n (row_at rows n) (k + 1) → Settled k l (word k l (has letters)) (row_at rows n ∷ older rows n) → Known k l letters (row_at rows n ∷ older rows n) work (n + 1)
  known_more rows law n h known t s m c =
      let len = older-length rows n (omega arith) in
      newest (λ b. Says m (cond b (form (λ j. formula (older rows n) j) (row_at rows n)) (formula (older rows n) m))) m (length (older rows n)) (omega arith)
      (λ e. subst (λ j. Says j (form (formula (older rows n)) (row_at rows n))) (sym (e ∙ len)) last) (λ b. known m (omega arith))
    where
      circle : Circular k l in' (Sat (word k l (has letters)) (form (formula (older rows n)) (row_at rows n)))
      circle =
          let few : n < length (take (n + 1) rows) = rw length-take (omega arith) in
          let len = older-length rows n (omega arith) in
          subst (λ (f : Formula). Circular k l in' (Sat (word k l (has letters)) f)) (formula_newest (row_at rows n) (older rows n) n len)
          (subst (λ (rs : List Row). Circular k l in' (Sat (word k l (has letters)) (formula rs n))) (older_more rows n h)
          (circles k l in' (has letters) (take (n + 1) rows) (law_to rows law (n + 1) (omega arith)) (subst (λ (rs : List Row). Settled k l (word k l (has letters)) rs) (sym (older_more rows n h)) s) n few))

      last : Says n (form (formula (older rows n)) (row_at rows n))
      last = all_round k l in' (cell k work n) (Sat (word k l (has letters)) (form (formula (older rows n)) (row_at rows n))) circle (λ i d. t i (omega arith))

module _ (k l : ℕ) (in' : l ≤ k) (letters : List ℕ) (rows : List Row) (work : List ℕ) (known : Known k l letters (reverse rows) work (length rows)) where
  pub known-below : (n : ℕ) → n ≤ length rows → Known k l letters (older rows n) work n
  known-below n h = older-down (λ rs m. Known k l letters rs work m) rows less (length rows - n) n (omega arith) known
    where
      less : (n : ℕ) → n < length rows → Known k l letters (row_at rows n ∷ older rows n) work (n + 1) → Known k l letters (older rows n) work n
      less n h p m c i =
          let z = older-length rows n (omega arith) in
          subst (λ (f : Formula). Decides (cell k work m (lasso k l i)) (Sat (word k l (has letters)) f i)) (formula-older (row_at rows n) (older rows n) m (omega arith)) (p m (omega arith) i)

  pub written_all : (n : ℕ) → n < length rows → Written k l letters (older rows n) work n (row_at rows n) (k + 1)
  written_all n h i c =
      let p = subst (λ (rs : List Row). Known k l letters rs work (n + 1)) (older_more rows n h) (known-below (n + 1) (omega arith)) n (omega arith) i in
      let e = formula_newest (row_at rows n) (older rows n) n (older-length rows n (omega arith)) in
      subst (λ j. Decides (cell k work n j) (Sat (word k l (has letters)) (form (formula (older rows n)) (row_at rows n)) i)) (lasso_low k l in' i (omega arith))
      (subst (λ (f : Formula). Decides (cell k work n (lasso k l i)) (Sat (word k l (has letters)) f i)) e p)
