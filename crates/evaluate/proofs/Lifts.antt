-- What is true of the lines of a row's operands is true of the operands.
use Rattle.std.proofs.Common.{◌≡◌, ℕ, suc, ◌+◌, ◌-◌, ◌%◌, ◌<◌, ◌≤◌, Bool, true, false, ◌⊎◌, ◌↔◌, List, refl, inl, inr, ⊎_elim, arith}
use Rattle.std.proofs.lemmas.Bool.{cases_lt, cases_Bool, both_ways, le-leb, lt-leb}
use Rattle.mtl.specs.declared.row.Row.{Row}
use Rattle.mtl.specs.declared.row.Row.TheVariants.{Signal, Not, And, Or, Next, Until, Release, After, Within, Throughout, Previous, WeakPrevious, Since, Trigger, Ago, Lately, Steadily}
use Rattle.mtl.specs.Formula.{Formula, Course, Sat}
use Rattle.mtl.specs.Formula.{Since as SinceOf, Trigger as TriggerOf, Until as UntilOf, Release as ReleaseOf, Within as WithinOf, Throughout as ThroughoutOf, Lately as LatelyOf, Steadily as SteadilyOf, Ago as AgoOf}
use Rattle.mtl.specs.Rows.{operands}
use Rattle.mtl.specs.Lists.{period}
use Rattle.mtl.specs.Runs.{word, form, Back, Closed, SettledRow}
use Rattle.mtl.proofs.Lasso.{lasso_low}
use Rattle.mtl.proofs.Loops.{Truth, TruthTo, endless, truth_low}
use Rattle.evaluate.specs.Letters.{has}
use Rattle.evaluate.specs.Bits.{bit, At, Round}
use Rattle.evaluate.specs.Lines.{Meant, Closing, Below}

-- S and P agree at the instants from i on, or up to i
abbrev From : ℕ → Course → Course → Type 0
From i S P = (j : ℕ) → i ≤ j → S j ↔ P j

abbrev Upto : ℕ → Course → Course → Type 0
Upto i S P = (j : ℕ) → j ≤ i → S j ↔ P j

module _ (i : ℕ) (A B P Q : Course) where
  until_iff : From i A P → From i B Q → UntilOf A B i ↔ UntilOf P Q i
  until_iff f g = (
    (λ u. (u.0, u.1, (g u.0 u.1).0 u.2, λ m c d. (f m c).0 (u.3 m c d))),
    λ u. (u.0, u.1, (g u.0 u.1).1 u.2, λ m c d. (f m c).1 (u.3 m c d)),
  )

  release_iff : From i A P → From i B Q → ReleaseOf A B i ↔ ReleaseOf P Q i
  release_iff f g = (
    (λ r j c. ⊎_elim (λ b. inl ((g j c).0 b)) (λ h. inr (h.0, h.1, h.2, (f h.0 h.1).0 h.3)) (r j c)),
    λ r j c. ⊎_elim (λ b. inl ((g j c).1 b)) (λ h. inr (h.0, h.1, h.2, (f h.0 h.1).1 h.3)) (r j c),
  )

  since_iff : Upto i A P → Upto i B Q → SinceOf A B i ↔ SinceOf P Q i
  since_iff f g = (
    (λ u. (u.0, u.1, (g u.0 u.1).0 u.2, λ m c d. (f m d).0 (u.3 m c d))),
    λ u. (u.0, u.1, (g u.0 u.1).1 u.2, λ m c d. (f m d).1 (u.3 m c d)),
  )

  trigger_iff : Upto i A P → Upto i B Q → TriggerOf A B i ↔ TriggerOf P Q i
  trigger_iff f g = (
    (λ r j c. ⊎_elim (λ b. inl ((g j c).0 b)) (λ h. inr (h.0, h.1, h.2, (f h.0 h.2).0 h.3)) (r j c)),
    λ r j c. ⊎_elim (λ b. inl ((g j c).1 b)) (λ h. inr (h.0, h.1, h.2, (f h.0 h.2).1 h.3)) (r j c),
  )

module _ (i t : ℕ) (A P : Course) where
  within_iff : From i A P → WithinOf A t i ↔ WithinOf P t i
  within_iff f = ((λ u. (u.0, u.1, u.2, (f u.0 u.1).0 u.3)), λ u. (u.0, u.1, u.2, (f u.0 u.1).1 u.3))

  throughout_iff : From i A P → ThroughoutOf A t i ↔ ThroughoutOf P t i
  throughout_iff f = ((λ r j c d. (f j c).0 (r j c d)), λ r j c d. (f j c).1 (r j c d))

  lately_iff : Upto i A P → LatelyOf A t i ↔ LatelyOf P t i
  lately_iff f = ((λ u. (u.0, u.1, u.2, (f u.0 u.2).0 u.3)), λ u. (u.0, u.1, u.2, (f u.0 u.2).1 u.3))

  steadily_iff : Upto i A P → SteadilyOf A t i ↔ SteadilyOf P t i
  steadily_iff f = ((λ r j c d. (f j d).0 (r j c d)), λ r j c d. (f j d).1 (r j c d))

  ago_iff : Upto i A P → Back A false i t ↔ AgoOf P t i
  ago_iff f = ⊎_elim before at (cases_lt i t)
    where
      before : i < t → Back A false i t ↔ AgoOf P t i
      before c = rw (lt-leb t i c) ((λ e. absurd (both_ways false refl e)), λ q. absurd (omega arith))

      at : t ≤ i → Back A false i t ↔ AgoOf P t i
      at c = rw (le-leb t i c) ((λ a. (c, (f (i - t) (omega arith)).0 a)), λ q. (f (i - t) (omega arith)).1 q.1)

  weak_ago_iff : Upto i A P → Back A true i t ↔ ((i < t) ⊎ P (i - t))
  weak_ago_iff f = ⊎_elim before at (cases_lt i t)
    where
      before : i < t → Back A true i t ↔ ((i < t) ⊎ P (i - t))
      before c = rw (lt-leb t i c) ((λ e. inl c), λ q. refl)

      at : t ≤ i → Back A true i t ↔ ((i < t) ⊎ P (i - t))
      at c = rw (le-leb t i c) ((λ a. inr ((f (i - t) (omega arith)).0 a)), λ q. ⊎_elim (λ b. absurd (omega arith)) (λ p. (f (i - t) (omega arith)).1 p) q)

  back_iff : (v : Bool) → Upto i A P → Back A v i t ↔ Back P v i t
  back_iff v f = ⊎_elim before at (cases_lt i t)
    where
      before : i < t → Back A v i t ↔ Back P v i t
      before c = rw (lt-leb t i c) ((λ e. e), λ e. e)

      at : t ≤ i → Back A v i t ↔ Back P v i t
      at c = rw (le-leb t i c) (f (i - t) (omega arith))

-- the loop closes on one course just where it closes on the other
pub closed_like : (k l t : ℕ) (v : Bool) (A P : Course) → l ≤ k → Upto k A P → Closed k l t v A ↔ Closed k l t v P
closed_like k l t v A P h f = (
  (λ c j o b. let r = c j o b in ((λ x. (at j).0 (r.0 ((back j).1 x))), λ x. (back j).0 (r.1 ((at j).1 x)))),
  λ c j o b. let r = c j o b in ((λ x. (at j).1 (r.0 ((back j).0 x))), λ x. (back j).1 (r.1 ((at j).0 x))),
)
  where
    back : (j : ℕ) → Back A v l j ↔ Back P v l j
    back j = back_iff l j A P v (λ m d. f m (omega arith))

    at : (j : ℕ) → A (k - (j - 1) % period k l) ↔ P (k - (j - 1) % period k l)
    at j = f (k - (j - 1) % period k l) (omega arith)

module _ (k l : ℕ) (in' : l ≤ k) (letters : List ℕ) (v : ℕ → List ℕ) (f : ℕ → Formula) where
  w : ℕ → ℕ → Bool
  w = word k l (has letters)

  -- line m tells the truth of f m, all along the endless run
  abbrev pub Known : ℕ → Type 0
  Known m = Truth (endless k l in' (bit (v m))) (Sat (word k l (has letters)) (f m))

  low : (m : ℕ) → Known m → (i : ℕ) → i ≤ k → Upto i (At true (v m)) (Sat (word k l (has letters)) (f m))
  low m h i c j d = truth_low k l in' (bit (v m)) (Sat (word k l (has letters)) (f m)) h j (omega arith)

  round : (m : ℕ) → Known m → (i : ℕ) → From i (Round k l true (v m)) (Sat (word k l (has letters)) (f m))
  round m h i j d = h j

  pub meant : (n : ℕ) → ((m : ℕ) → m < n → Known m) → (r : Row) → Below n (operands r) → (i : ℕ) → i ≤ k → Meant k l letters v r i ↔ Sat (word k l (has letters)) (form f r) i
  meant n h (Signal a) o i c = let e = lasso_low k l in' i c in rw e ((λ q. q), λ q. q)
  meant n h (Not a) o i c =
      let d = low a (h a o.0) i c i (omega arith) in
      ((λ e p. both_ways (bit (v a) i) e (d.1 p)), λ q. ⊎_elim (λ e. absurd (q (d.0 e))) (λ e. e) (cases_Bool (bit (v a) i)))
  meant n h (And a b) o i c =
      let d = low a (h a o.0) i c i (omega arith) in
      let e = low b (h b o.1.0) i c i (omega arith) in
      ((λ q. (d.0 q.0, e.0 q.1)), λ q. (d.1 q.0, e.1 q.1))
  meant n h (Or a b) o i c =
      let d = low a (h a o.0) i c i (omega arith) in
      let e = low b (h b o.1.0) i c i (omega arith) in
      (⊎_elim (λ q. inl (d.0 q)) (λ q. inr (e.0 q)), ⊎_elim (λ q. inl (d.1 q)) (λ q. inr (e.1 q)))
  meant n h (Next a) o i c = let e : i + 1 ≡ suc i = omega arith in rw e (h a o.0 (suc i))
  meant n h (Until a b) o i c = until_iff i (Round k l true (v a)) (Round k l true (v b)) (Sat (word k l (has letters)) (f a)) (Sat (word k l (has letters)) (f b)) (round a (h a o.0) i) (round b (h b o.1.0) i)
  meant n h (Release a b) o i c = release_iff i (Round k l true (v a)) (Round k l true (v b)) (Sat (word k l (has letters)) (f a)) (Sat (word k l (has letters)) (f b)) (round a (h a o.0) i) (round b (h b o.1.0) i)
  meant n h (After a t) o i c = h a o.0 (i + t)
  meant n h (Within a t) o i c = within_iff i t (Round k l true (v a)) (Sat (word k l (has letters)) (f a)) (round a (h a o.0) i)
  meant n h (Throughout a t) o i c = throughout_iff i t (Round k l true (v a)) (Sat (word k l (has letters)) (f a)) (round a (h a o.0) i)
  meant n h (Previous a) o i c =
      let q = ago_iff i 1 (At true (v a)) (Sat (word k l (has letters)) (f a)) (low a (h a o.0) i c) in
      ((λ b. q.0 b), λ b. q.1 b)
  meant n h (WeakPrevious a) o i c =
      let q = weak_ago_iff i 1 (At true (v a)) (Sat (word k l (has letters)) (f a)) (low a (h a o.0) i c) in
      ((λ b. ⊎_elim (λ e. inl (omega arith)) inr (q.0 b)), λ b. q.1 (⊎_elim (λ e. inl (omega arith)) inr b))
  meant n h (Since a b) o i c = since_iff i (At true (v a)) (At true (v b)) (Sat (word k l (has letters)) (f a)) (Sat (word k l (has letters)) (f b)) (low a (h a o.0) i c) (low b (h b o.1.0) i c)
  meant n h (Trigger a b) o i c = trigger_iff i (At true (v a)) (At true (v b)) (Sat (word k l (has letters)) (f a)) (Sat (word k l (has letters)) (f b)) (low a (h a o.0) i c) (low b (h b o.1.0) i c)
  meant n h (Ago a t) o i c = ago_iff i t (At true (v a)) (Sat (word k l (has letters)) (f a)) (low a (h a o.0) i c)
  meant n h (Lately a t) o i c = lately_iff i t (At true (v a)) (Sat (word k l (has letters)) (f a)) (low a (h a o.0) i c)
  meant n h (Steadily a t) o i c = steadily_iff i t (At true (v a)) (Sat (word k l (has letters)) (f a)) (low a (h a o.0) i c)

  unit_iff : Unit {0} ↔ Unit {0}
  unit_iff = ((λ x. x), λ x. x)

  -- the check of the loop's end says whether the run is settled for the row
  pub settled : (n : ℕ) → ((m : ℕ) → m < n → Known m) → (r : Row) → Below n (operands r) → (x : List ℕ) → TruthTo (suc k) (bit x) (Sat (word k l (has letters)) (form f r)) → Closing k l v x r ↔ SettledRow k l (word k l (has letters)) f r
  settled n h (Signal a) o x t = unit_iff
  settled n h (Not a) o x t = unit_iff
  settled n h (And a b) o x t = unit_iff
  settled n h (Or a b) o x t = unit_iff
  settled n h (Next a) o x t = unit_iff
  settled n h (Until a b) o x t = unit_iff
  settled n h (Release a b) o x t = unit_iff
  settled n h (After a d) o x t = unit_iff
  settled n h (Within a d) o x t = unit_iff
  settled n h (Throughout a d) o x t = unit_iff
  settled n h (Previous a) o x t = closed_like k l 1 false (At true (v a)) (Sat (word k l (has letters)) (f a)) in' (low a (h a o.0) k (omega arith))
  settled n h (WeakPrevious a) o x t = closed_like k l 1 true (At true (v a)) (Sat (word k l (has letters)) (f a)) in' (low a (h a o.0) k (omega arith))
  settled n h (Since a b) o x t = closed_like k l 1 false (At true x) (Sat (word k l (has letters)) (form f (Since a b))) in' (λ j c. t j (omega arith))
  settled n h (Trigger a b) o x t = closed_like k l 1 true (At true x) (Sat (word k l (has letters)) (form f (Trigger a b))) in' (λ j c. t j (omega arith))
  settled n h (Ago a d) o x t = closed_like k l d false (At true (v a)) (Sat (word k l (has letters)) (f a)) in' (low a (h a o.0) k (omega arith))
  settled n h (Lately a d) o x t = closed_like k l d false (At true (v a)) (Sat (word k l (has letters)) (f a)) in' (low a (h a o.0) k (omega arith))
  settled n h (Steadily a d) o x t = closed_like k l d true (At true (v a)) (Sat (word k l (has letters)) (f a)) in' (low a (h a o.0) k (omega arith))
