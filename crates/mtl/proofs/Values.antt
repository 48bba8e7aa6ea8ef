-- The truth of each row on a run, and of its extra variables, worked out as tests.
use Rattle.std.proofs.Common.{◌≡◌, ℕ, zero, suc, ◌+◌, ◌-◌, ◌<◌, ◌≤◌, Bool, true, false, not, ◌&&◌, ◌||◌, Decides, sym, ap, ◌∙◌, inl, inr, ⊎_elim, arith}
use Rattle.std.proofs.lemmas.Bool.Decides.{Decides-like, Decides-not, Decides-and, Decides-or, Decides-at}
use Rattle.cnf.specs.Clauses.{asserted}
use Rattle.mtl.specs.declared.row.Row.{Row}
use Rattle.mtl.specs.declared.row.Row.TheVariants.{Signal, Not, And, Or, Next, Until, Release, After, Within, Throughout, Previous, WeakPrevious, Since, Trigger, Ago, Lately, Steadily}
use Rattle.mtl.specs.Formula.{Formula, Course, Sat}
use Rattle.mtl.specs.Formula.{Until as UntilOf}
use Rattle.mtl.specs.Rows.{operands}
use Rattle.mtl.specs.Runs.{lasso, word, form, ExtrasTell}
use Rattle.mtl.proofs.Shapes.{some}
use Rattle.mtl.proofs.Some.{some_decides, some_like}
use Rattle.mtl.proofs.Lasso.{lasso_low}
use Rattle.mtl.proofs.Loops.{Truth, TruthTo, endless, truth_low}
use Rattle.mtl.proofs.Pasts.{prior}
use Rattle.mtl.proofs.Untils.{Seen, nots, Non, release_dual}
use Rattle.mtl.proofs.Operators.{within-truth, throughout_truth, ago_truth, weak_ago_truth, lately_truth, steadily_truth, since_of, since_truth, trigger_truth}
use Rattle.mtl.proofs.Laws.{told_iff, prior_low}
use Rattle.mtl.proofs.Tables.{Below}
use Rattle.mtl.proofs.Evaluate.{sweep, until_evaluated}

-- the row's test at 0 to k, over the tests v of its operands
abbrev pub row_value : ℕ → ℕ → (ℕ → ℕ → Bool) → (ℕ → ℕ → Bool) → Row → ℕ → Bool
row_value k l w v (Signal a) i = w i a
row_value k l w v (Not a) i = not (v a i)
row_value k l w v (And a b) i = v a i && v b i
row_value k l w v (Or a b) i = v a i || v b i
row_value k l w v (Next a) i = v a (lasso k l (suc i))
row_value k l w v (Until a b) i = sweep (v a) (v b) (sweep (v a) (v b) false (suc k - l) l) (suc k - i) i
row_value k l w v (Release a b) i = not (sweep (nots (v a)) (nots (v b)) (sweep (nots (v a)) (nots (v b)) false (suc k - l) l) (suc k - i) i)
row_value k l w v (After a t) i = v a (lasso k l (i + t))
row_value k l w v (Within a t) i = some (λ j. v a (lasso k l j)) i (suc t)
row_value k l w v (Throughout a t) i = not (some (λ j. not (v a (lasso k l j))) i (suc t))
row_value k l w v (Previous a) i = prior (v a) false i 1
row_value k l w v (WeakPrevious a) i = prior (v a) true i 1
row_value k l w v (Since a b) i = since_of (v a) (v b) i
row_value k l w v (Trigger a b) i = not (since_of (nots (v a)) (nots (v b)) i)
row_value k l w v (Ago a t) i = prior (v a) false i t
row_value k l w v (Lately a t) i = some (prior (v a) false i) 0 (suc t)
row_value k l w v (Steadily a t) i = not (some (prior (nots (v a)) false i) 0 (suc t))

since_low : (a b c d : ℕ → Bool) (i : ℕ) → ((m : ℕ) → m ≤ i → a m ≡ c m) → ((m : ℕ) → m ≤ i → b m ≡ d m) → since_of a b i ≡ since_of c d i
since_low a b c d zero h g = g 0 (omega arith)
since_low a b c d (suc i) h g =
    let p = h (suc i) (omega arith) in let q = g (suc i) (omega arith) in
    let r = since_low a b c d i (λ m n. h m (omega arith)) (λ m n. g m (omega arith)) in cc

module _ (k l : ℕ) (in' : l ≤ k) where
  -- what has the test g, has the test x that is as g up to k
  like : (x g : ℕ → Bool) (S : Course) → Truth g S → ((i : ℕ) → i ≤ k → x i ≡ g i) → TruthTo (suc k) x S
  like x g S t e = (told_iff (suc k) x g S t).0 (λ i c. e i (omega arith))

  seen_test : (b : ℕ → Bool) (Q : Course) → Truth (endless k l in' b) Q → TruthTo (suc k) (λ i. some b l (suc i - l)) (Seen l Q)
  seen_test b Q t i c =
      Decides-like (some b l (suc i - l))
      (λ h. (h.0, h.1, omega arith, (truth_low k l in' b Q t h.0 (omega arith)).0 h.3))
      (λ h. (h.0, h.1, omega arith, (truth_low k l in' b Q t h.0 (omega arith)).1 h.3))
      (some_decides b l (suc i - l))

  module _ (letters : ℕ → ℕ → Bool) (v : ℕ → ℕ → Bool) (f : ℕ → Formula) where
    abbrev Known : ℕ → Type 0
    Known a = Truth (endless k l in' (v a)) (Sat (word k l letters) (f a))

    lo : (a i : ℕ) → i ≤ k → v a i ≡ v a (lasso k l i)
    lo a i c = ap (v a) (sym (lasso_low k l in' i c))

    pub row_true : (n : ℕ) → ((m : ℕ) → m < n → Known m) → (r : Row) → Below n (operands r) → TruthTo (suc k) (row_value k l letters v r) (Sat (word k l letters) (form f r))
    row_true n h (Signal a) o = λ i c. let e = lasso_low k l in' i (omega arith) in ((λ t. ap (λ m. letters m a) e ∙ t), λ t. sym (ap (λ m. letters m a) e) ∙ t)
    row_true n h (Not a) o = λ i c. Decides-not (v a i) (truth_low k l in' (v a) (Sat (word k l letters) (f a)) (h a o.0) i c)
    row_true n h (And a b) o = λ i c. Decides-and (v a i) (v b i) (truth_low k l in' (v a) (Sat (word k l letters) (f a)) (h a o.0) i c) (truth_low k l in' (v b) (Sat (word k l letters) (f b)) (h b o.1.0) i c)
    row_true n h (Or a b) o = λ i c. Decides-or (v a i) (v b i) (truth_low k l in' (v a) (Sat (word k l letters) (f a)) (h a o.0) i c) (truth_low k l in' (v b) (Sat (word k l letters) (f b)) (h b o.1.0) i c)
    row_true n h (Next a) o = λ i c. h a o.0 (suc i)
    row_true n h (Until a b) o = until_true (v a) (v b) (Sat (word k l letters) (f a)) (Sat (word k l letters) (f b)) (h a o.0) (h b o.1.0)
      where
        until_true : (a b : ℕ → Bool) (P Q : Course) → Truth (endless k l in' a) P → Truth (endless k l in' b) Q → TruthTo (suc k) (λ i. sweep a b (sweep a b false (suc k - l) l) (suc k - i) i) (UntilOf P Q)
        until_true a b P Q ta tb = until_evaluated k l in' a b (λ i. some b l (suc i - l)) P Q ta tb (seen_test b Q tb)
    row_true n h (Release a b) o = λ i c.
        let x = sweep (nots (v a)) (nots (v b)) (sweep (nots (v a)) (nots (v b)) false (suc k - l) l) (suc k - i) i in
        let na = λ (j : ℕ). Decides-not (v a (lasso k l j)) (h a o.0 j) in
        let nb = λ (j : ℕ). Decides-not (v b (lasso k l j)) (h b o.1.0 j) in
        release_dual (endless k l in' (v a)) (endless k l in' (v b)) (Sat (word k l letters) (f a)) (Sat (word k l letters) (f b)) (h a o.0) (h b o.1.0) (not x) i
        (Decides-at (not (not x)) x (twice x) (until_evaluated k l in' (nots (v a)) (nots (v b)) (λ m. some (nots (v b)) l (suc m - l)) (Non (Sat (word k l letters) (f a))) (Non (Sat (word k l letters) (f b))) na nb (seen_test (nots (v b)) (Non (Sat (word k l letters) (f b))) nb) i c))
      where
        twice : (p : Bool) → not (not p) ≡ p
        twice p = grind arith
    row_true n h (After a t) o = λ i c. h a o.0 (i + t)
    row_true n h (Within a t) o = λ i c. within-truth (endless k l in' (v a)) (Sat (word k l letters) (f a)) (h a o.0) t i
    row_true n h (Throughout a t) o = λ i c. throughout_truth (endless k l in' (v a)) (Sat (word k l letters) (f a)) (h a o.0) t i
    row_true n h (Previous a) o = like (λ i. prior (v a) false i 1) (λ i. prior (endless k l in' (v a)) false i 1) (Sat (word k l letters) (form f (Previous a))) (ago_truth (endless k l in' (v a)) (Sat (word k l letters) (f a)) (h a o.0) 1) (λ i c. prior_low k l in' (v a) false i 1 c)
    row_true n h (WeakPrevious a) o =
        like (λ i. prior (v a) true i 1) (λ i. prior (endless k l in' (v a)) true i 1) (Sat (word k l letters) (form f (WeakPrevious a)))
        (λ i. Decides-like (prior (endless k l in' (v a)) true i 1) (λ q. ⊎_elim (λ c. inl (omega arith)) inr q) (λ q. ⊎_elim (λ c. inl (omega arith)) inr q) (weak_ago_truth (endless k l in' (v a)) (Sat (word k l letters) (f a)) (h a o.0) 1 i))
        (λ i c. prior_low k l in' (v a) true i 1 c)
    row_true n h (Since a b) o =
        like (since_of (v a) (v b)) (since_of (endless k l in' (v a)) (endless k l in' (v b))) (Sat (word k l letters) (form f (Since a b)))
        (since_truth (endless k l in' (v a)) (endless k l in' (v b)) (Sat (word k l letters) (f a)) (Sat (word k l letters) (f b)) (h a o.0) (h b o.1.0))
        (λ i c. since_low (v a) (v b) (endless k l in' (v a)) (endless k l in' (v b)) i (λ m d. lo a m (omega arith)) (λ m d. lo b m (omega arith)))
    row_true n h (Trigger a b) o =
        like (λ i. not (since_of (nots (v a)) (nots (v b)) i)) (λ i. not (since_of (nots (endless k l in' (v a))) (nots (endless k l in' (v b))) i)) (Sat (word k l letters) (form f (Trigger a b)))
        (trigger_truth (endless k l in' (v a)) (endless k l in' (v b)) (Sat (word k l letters) (f a)) (Sat (word k l letters) (f b)) (h a o.0) (h b o.1.0))
        (λ i c. ap not (since_low (nots (v a)) (nots (v b)) (nots (endless k l in' (v a))) (nots (endless k l in' (v b))) i (λ m d. ap not (lo a m (omega arith))) (λ m d. ap not (lo b m (omega arith)))))
    row_true n h (Ago a t) o = like (λ i. prior (v a) false i t) (λ i. prior (endless k l in' (v a)) false i t) (Sat (word k l letters) (form f (Ago a t))) (ago_truth (endless k l in' (v a)) (Sat (word k l letters) (f a)) (h a o.0) t) (λ i c. prior_low k l in' (v a) false i t c)
    row_true n h (Lately a t) o =
        like (λ i. some (prior (v a) false i) 0 (suc t)) (λ i. some (prior (endless k l in' (v a)) false i) 0 (suc t)) (Sat (word k l letters) (form f (Lately a t)))
        (lately_truth (endless k l in' (v a)) (Sat (word k l letters) (f a)) (h a o.0) t)
        (λ i c. some_like (prior (v a) false i) (prior (endless k l in' (v a)) false i) (suc t) 0 0 (λ d b. prior_low k l in' (v a) false i (0 + d) c))
    row_true n h (Steadily a t) o =
        like (λ i. not (some (prior (nots (v a)) false i) 0 (suc t))) (λ i. not (some (prior (nots (endless k l in' (v a))) false i) 0 (suc t))) (Sat (word k l letters) (form f (Steadily a t)))
        (steadily_truth (endless k l in' (v a)) (Sat (word k l letters) (f a)) (h a o.0) t)
        (λ i c. ap not (some_like (prior (nots (v a)) false i) (prior (nots (endless k l in' (v a))) false i) (suc t) 0 0 (λ d b. prior_low k l in' (nots (v a)) false i (0 + d) c)))

    ahead_true : (a t : ℕ) → Known a → (e : ℕ → Bool) × ((j : ℕ) → j < t → Decides (e j) (Sat (word k l letters) (f a) (k + 1 + j)))
    ahead_true a t h = ((λ j. v a (lasso k l (k + 1 + j))), λ j c. h (k + 1 + j))

    -- the extra variables of a row, from the first on
    pub extra_true : (n : ℕ) → ((m : ℕ) → m < n → Known m) → (r : Row) → Below n (operands r) → (e : ℕ → Bool) × ExtrasTell k l (word k l letters) f e asserted r
    extra_true n h (Signal a) o = ((λ _. false), tt)
    extra_true n h (Not a) o = ((λ _. false), tt)
    extra_true n h (And a b) o = ((λ _. false), tt)
    extra_true n h (Or a b) o = ((λ _. false), tt)
    extra_true n h (Next a) o = ((λ _. false), tt)
    extra_true n h (Until a b) o = ((λ i. some (v b) l (suc i - l)), seen_test (v b) (Sat (word k l letters) (f b)) (h b o.1.0))
    extra_true n h (Release a b) o =
        ((λ i. some (nots (v b)) l (suc i - l)), seen_test (nots (v b)) (Non (Sat (word k l letters) (f b))) (λ j. Decides-not (v b (lasso k l j)) (h b o.1.0 j)))
    extra_true n h (After a t) o = ahead_true a t (h a o.0)
    extra_true n h (Within a t) o = ahead_true a t (h a o.0)
    extra_true n h (Throughout a t) o = ahead_true a t (h a o.0)
    extra_true n h (Previous a) o = ((λ _. false), tt)
    extra_true n h (WeakPrevious a) o = ((λ _. false), tt)
    extra_true n h (Since a b) o = ((λ _. false), tt)
    extra_true n h (Trigger a b) o = ((λ _. false), tt)
    extra_true n h (Ago a t) o = ((λ _. false), tt)
    extra_true n h (Lately a t) o = ((λ _. false), tt)
    extra_true n h (Steadily a t) o = ((λ _. false), tt)
