-- The run that comes out of an assignment is the one that it belongs to.
use Rattle.std.proofs.Common.{◌≡◌, ℕ, zero, suc, ◌+◌, ◌<◌, ◌≤◌, Bool, true, false, cond, eqb, leb, List, [], ◌∷◌, reverse, length, Some, None, Ok, Err, Option, Result, sym, refl, ap, ◌∙◌, subst, ⊎_elim, arith}
use Rattle.std.proofs.lemmas.Bool.{cases_Bool, cases_order, cond-true, cond-false, eq-eqb, ne_eqb, eqb-true, leb-true, false≢true, or_cases, or_parts, both_ways}
use Rattle.std.proofs.lemmas.List.{take_all}
use Rattle.std.specs.Result.{IsErr}
use Rattle.cnf.specs.Clauses.{Assignment, truth}
use Rattle.sinks.specs.Models.{assigned}
use Rattle.mtl.specs.declared.row.Row.{Row}
use Rattle.mtl.specs.Formula.{Word}
use Rattle.mtl.specs.Rows.{signal_of}
use Rattle.mtl.specs.Lists.{starts, block, top, start, value}
use Rattle.mtl.specs.Runs.{Run, endless_word, word, formula, Belongs}
use Rattle.mtl.specs.Tables.{names, is_signal, has_signal, row_of, lawful}
use Rattle.mtl.specs.Statements.{BelongsTo}
use Rattle.mtl.proofs.Tables.{newest}
use Rattle.mtl.proofs.Exact.{reads, marks_of}
use Rattle.job.specs.Calls.{State, highest}
use Rattle.job.proofs.Accepted.{all_yes}
use Rattle.evaluate.specs.Lines.{Low}
use Rattle.evaluate.specs.Truths.{row_at, older}
use Rattle.evaluate.proofs.Tables.{older_more, older-length, ready}
use Rattle.witness.specs.declared.refusal.Refusal.{Refusal}
use Rattle.witness.specs.declared.refusal.Refusal.TheVariants.{NotBegun, Letters, Room, NoStart}
use Rattle.witness.specs.Shown.{starts_true, start_below, run_asks, run_answer, row_shown, shown, LettersShown, IsRun, ComesOut}

-- where just L(l) is true, it is found
module _ (α : Assignment) (l : ℕ) where
  none_before : (n : ℕ) → n ≤ l → ((i : ℕ) → i < n → truth α (starts i) ≡ eqb l i) → starts_true α n ≡ 0
  none_before zero h f = refl
  none_before (suc n) h f =
      let off = ap (λ x. cond x 1 0 + starts_true α n) (f n (omega arith) ∙ ne_eqb l n (λ e. omega arith)) in
      let rest = none_before n (omega arith) (λ i c. f i (omega arith)) in omega arith

  pub one_start : (n : ℕ) → l < n → ((i : ℕ) → i < n → truth α (starts i) ≡ eqb l i) → (starts_true α n ≡ 1) × (start_below α n ≡ l)
  one_start zero h f = absurd (omega arith)
  one_start (suc n) h f = ⊎_elim here (λ g. ⊎_elim (λ c. there c (one_start n c (λ i d. f i (omega arith)))) (λ c. absurd (omega arith)) g) (cases_order l n)
    where
      here : l ≡ n → (starts_true α (suc n) ≡ 1) × (start_below α (suc n) ≡ l)
      here e =
          let on = f n (omega arith) ∙ eq-eqb l n e in
          let none = none_before n (omega arith) (λ i c. f i (omega arith)) in
          (ap (λ x. cond x 1 0 + starts_true α n) on ∙ ap (λ m. 1 + m) none, ap (λ x. cond x n (start_below α n)) on ∙ sym e)

      there : l < n → (starts_true α n ≡ 1) × (start_below α n ≡ l) → (starts_true α (suc n) ≡ 1) × (start_below α (suc n) ≡ l)
      there c rest =
          let off = f n (omega arith) ∙ ne_eqb l n (λ e. omega arith) in
          let count = ap (λ x. cond x 1 0 + starts_true α n) off in
          (omega (arith, rest.0, count), ap (λ x. cond x n (start_below α n)) off ∙ rest.1)

pub belongs_start : (k : ℕ) (rows : List Row) (α : Assignment) (run : Run k) → BelongsTo α run rows → (starts_true α (k + 1) ≡ 1) × (start_below α (k + 1) ≡ run.loop)
belongs_start k rows α run b =
    let m = marks_of k run.loop (endless_word run) α (reverse rows) b in
    let h = run.bounded in
    one_start α run.loop (k + 1) (omega arith) (λ i c. (m i (omega arith)).0)

-- a signal's row, if it has one
row_found : (m a : ℕ) (rows : List Row) → has_signal a rows ≡ true → (n : ℕ) × (row_of m a rows ≡ Some (m + n)) × (n < length rows) × (is_signal a (row_at rows n) ≡ true)
row_found m a [] h = absurd (false≢true h)
row_found m a (r ∷ rs) h = ⊎_elim here (λ e. there e (row_found (suc m) a rs (⊎_elim (λ t. absurd (both_ways (is_signal a r) e t)) (λ t. t) (or_cases (is_signal a r) (has_signal a rs) h)))) (cases_Bool (is_signal a r))
  where
    here : is_signal a r ≡ true → (n : ℕ) × (row_of m a (r ∷ rs) ≡ Some (m + n)) × (n < length (r ∷ rs)) × (is_signal a (row_at (r ∷ rs) n) ≡ true)
    here e = let z : m ≡ m + 0 = omega arith in (0, cond-true (is_signal a r) (Some m) (row_of (suc m) a rs) e ∙ ap Some z, omega arith, e)

    there : is_signal a r ≡ false → ((n : ℕ) × (row_of (suc m) a rs ≡ Some (suc m + n)) × (n < length rs) × (is_signal a (row_at rs n) ≡ true)) → (n : ℕ) × (row_of m a (r ∷ rs) ≡ Some (m + n)) × (n < length (r ∷ rs)) × (is_signal a (row_at (r ∷ rs) n) ≡ true)
    there e p = let z : suc m + p.0 ≡ m + suc p.0 = omega arith in (suc p.0, cond-false (is_signal a r) (Some m) (row_of (suc m) a rs) e ∙ p.1 ∙ ap Some z, omega arith, p.3)

row_missing : (m a : ℕ) (rows : List Row) → has_signal a rows ≡ false → row_of m a rows ≡ None
row_missing m a [] h = refl
row_missing m a (r ∷ rs) h =
    let p = or_parts (is_signal a r) (has_signal a rs) h in
    cond-false (is_signal a r) (Some m) (row_of (suc m) a rs) p.0 ∙ row_missing (suc m) a rs p.1

pub shown_off : (k : ℕ) (α : Assignment) (rows : List Row) (i a : ℕ) → has_signal a rows ≡ false → shown k α rows i a ≡ false
shown_off k α rows i a h = ap (row_shown k α rows i) (row_missing 0 a rows h)

-- every signal's row reads the letters
module _ (k l : ℕ) (in' : l ≤ k) (letters : Word) (α : Assignment) (rows : List Row) where
  all_read : (m : ℕ) → m ≤ length rows → Belongs k l (word k l letters) α (older rows m) → (n : ℕ) → n < m → (a : ℕ) → is_signal a (row_at rows n) ≡ true → (i : ℕ) → i ≤ k → letters i a ≡ truth α (value k (older rows m) n i)
  all_read zero h b n c a s i d = absurd (omega arith)
  all_read (suc m) h b n c a s i d =
      let y : suc m ≡ m + 1 = omega arith in
      let e = ap (older rows) y ∙ older_more rows m (omega arith) in
      let rs = older rows m in let r = row_at rows m in
      let len = older-length rows m (omega arith) in
      let b' = subst (λ (xs : List Row). Belongs k l (word k l letters) α xs) e b in
      subst (λ (xs : List Row). letters i a ≡ truth α (value k xs n i)) (sym e)
      (newest (λ x. letters i a ≡ truth α (block (cond x (top k rs) (start k rs n)) i)) n (length rs) (omega arith)
      (λ q. reads k l in' α (marks_of k l (word k l letters) α rs b'.0) letters (value k rs) (block (top k rs)) (block (top k rs + suc k)) (formula rs) r b'.1 a
      (subst (λ (j : ℕ). is_signal a (row_at rows j) ≡ true) (q ∙ len) s) i d)
      (λ q. all_read m (omega arith) b'.0 n (omega arith) a s i d))

-- the signal of a row is at most 31
low_signal : (a : ℕ) (o : Option ℕ) → names a o ≡ true → Low o → a < 32
low_signal a None h c = absurd (false≢true h)
low_signal a (Some b) h c = let e = eqb-true a b h in omega arith

module _ (k : ℕ) (rows : List Row) (α : Assignment) (law : lawful rows ≡ true) where
  pub low : (a : ℕ) → has_signal a rows ≡ true → a < 32
  low a h = let p = row_found 0 a rows h in low_signal a (signal_of (row_at rows p.0)) p.3 (ready rows law p.0 p.2).2

  pub shown_on : (run : Run k) → BelongsTo α run rows → (i a : ℕ) → i ≤ k → has_signal a rows ≡ true → shown k α rows i a ≡ run.letters i a
  shown_on run b i a c h =
      let p = row_found 0 a rows h in
      let z : 0 + p.0 ≡ p.0 = omega arith in
      let e : older rows (length rows) ≡ reverse rows = ap reverse (take_all (length rows) rows (omega arith)) in
      let b' = subst (λ (xs : List Row). Belongs k run.loop (endless_word run) α xs) (sym e) b in
      let q = all_read k run.loop run.bounded run.letters α rows (length rows) (omega arith) b' p.0 p.2 a p.3 i c in
      ap (row_shown k α rows i) (p.1 ∙ ap Some z) ∙ sym (subst (λ (xs : List Row). run.letters i a ≡ truth α (value k xs p.0 i)) e q)

  pub is_run : (l : ℕ) (letters : List ℕ) → l ≡ start_below α (k + 1) → LettersShown k α rows letters → (run : Run k) → BelongsTo α run rows → IsRun k rows run l letters
  is_run l letters s w run b = record {
    loop = s ∙ (belongs_start k rows α run b).1;
    on = λ i a c h. w i a c (low a h) ∙ shown_on run b i a c h;
    off = λ i a c d h. w i a c d ∙ shown_off k α rows i a h;
  }

-- what is known once the questions are answered yes
module _ (s : State) (area : List ℕ) (room : ℕ) where
  pub record PassedRun (l : ℕ) : Type 0 where
    pub begun : s.begun ≡ true
    pub as_many : room ≡ s.bound + 1
    pub roomy : highest s ≤ length area
    pub start : l ≡ start_below (assigned area) (s.bound + 1)
    pub inside : starts_true (assigned area) (s.bound + 1) ≡ 1

  pub passed_run : (l : ℕ) → Ok l ≡ run_answer s area room → PassedRun l
  passed_run l e =
      let y = all_yes (run_asks s area room) (start_below (assigned area) (s.bound + 1)) l (sym e) in
      record {
        begun = y.1.0;
        as_many = eqb-true room (s.bound + 1) y.1.1.0;
        roomy = leb-true (highest s) (length area) y.1.1.1.0;
        start = sym y.0;
        inside = eqb-true (starts_true (assigned area) (s.bound + 1)) 1 y.1.1.1.1.0;
      }

  not_no_start : (a b c d : Bool) (l : ℕ) → d ≡ true → ◌≡◌ {A = Result ℕ Refusal} (Err NoStart) (cond a (cond b (cond c (cond d (Ok l) (Err NoStart)) (Err Room)) (Err Letters)) (Err NotBegun)) → ⊥
  not_no_start false b c d l t e = let z : ◌≡◌ {A = ℕ} 0 1 = cc in let n : ⊥ = omega arith in n
  not_no_start true false c d l t e = let z : ◌≡◌ {A = ℕ} 0 1 = cc in let n : ⊥ = omega arith in n
  not_no_start true true false d l t e = let z : ◌≡◌ {A = ℕ} 0 1 = cc in let n : ⊥ = omega arith in n
  not_no_start true true true false l t e = let z : ◌≡◌ {A = ℕ} 0 1 = cc in let n : ⊥ = omega arith in n
  not_no_start true true true true l t e = let z : ◌≡◌ {A = ℕ} 0 1 = cc in let n : ⊥ = omega arith in n

  pub refused_out : (e : Refusal) (letters : List ℕ) → Err e ≡ run_answer s area room → ComesOut s area (Err e) letters
  refused_out e letters h run b q =
      let one = (belongs_start s.bound s.rows (assigned area) run b).0 in
      not_no_start s.begun (eqb room (s.bound + 1)) (leb (highest s) (length area)) (eqb (starts_true (assigned area) (s.bound + 1)) 1) (start_below (assigned area) (s.bound + 1))
      (eq-eqb (starts_true (assigned area) (s.bound + 1)) 1 one) (ap Err (sym q) ∙ h)

  pub refused_result : (letters : List ℕ) (r : Result ℕ Refusal) → IsErr r → r ≡ run_answer s area room → ComesOut s area r letters
  refused_result letters (Ok l) n h = absurd (false≢true n)
  refused_result letters (Err e) n h = refused_out e letters h
