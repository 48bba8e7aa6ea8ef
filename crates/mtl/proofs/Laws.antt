-- The law of each row: its clauses hold just where its variables tell the truth and the run is settled for it.
use Rattle.std.proofs.Common.{◌≡◌, ℕ, zero, suc, ◌+◌, ◌<◌, ◌≤◌, Bool, true, false, not, ◌&&◌, ◌||◌, ◌↔◌, [], ◌++◌, sym, ap, ◌∙◌, inl, inr, ⊎_elim, append-nil, arith}
use mathlib.Core.Logic.Iff
use Rattle.std.proofs.lemmas.Bool.Decides.{Decides-like, Decides-or, Decides-and, Decides-not, same_from_decides, Decides-at}
use Rattle.cnf.specs.Clauses.{Clauses, sat_all}
use Rattle.mtl.specs.declared.row.Row.{Row}
use Rattle.mtl.specs.declared.row.Row.TheVariants.{Not, And, Or, Next, Until, Release, After, Within, Throughout, Previous, WeakPrevious, Since, Trigger, Ago, Lately, Steadily}
use Rattle.mtl.specs.Formula.{Formula, Course, Sat}
use Rattle.mtl.specs.Shapes.{Lits}
use Rattle.mtl.specs.Lists.{body, row_clauses}
use Rattle.mtl.specs.Runs.{lasso, form, Closed, SettledRow, Tells, ExtrasTell, Marks}
use Rattle.mtl.proofs.Shapes.{hold_dual, upto_none, some}
use Rattle.mtl.proofs.Some.{some_like}
use Rattle.mtl.proofs.Lasso.{lasso_low, lasso_le, add_like, suc_like, lasso_twice}
use Rattle.mtl.proofs.Loops.{Truth, TruthTo, endless, truth_low}
use Rattle.mtl.proofs.Pasts.{prior, prior_not, prior_like, prior_round, Closes}
use Rattle.mtl.proofs.Closing.{tests, closed_iff}
use Rattle.mtl.proofs.Untils.{nots, until_sound, until_complete, release_sound, release_complete}
use Rattle.mtl.proofs.Operators.{told, tells_back, within-truth, throughout_truth, ago_truth, weak_ago_truth, lately_truth, steadily_truth, since_of, since_truth, trigger_truth, since_round}
use Rattle.mtl.proofs.Equations.{each_iff, below_iff, right_iff, not_eqs, and_eqs, or_eqs, next_eqs, until_eqs, release_eqs, after_eqs, within_eqs, throughout_eqs, ago_eqs, lately_eqs, steadily_eqs, since_eqs, trigger_eqs}

pub flip_iff : (p q : Bool) → (not p ≡ q) ↔ (p ≡ not q)
flip_iff p q = (λ h. grind arith, λ h. grind arith)

pub told_iff : (n : ℕ) (x g : ℕ → Bool) (S : Course) → Truth g S → ((i : ℕ) → i < n → x i ≡ g i) ↔ TruthTo n x S
told_iff n x g S t = ((λ h i c. Decides-at (x i) (g i) (h i c) (t i)), λ h i c. same_from_decides (x i) (g i) (h i c) (t i))

module _ (k l : ℕ) (in' : l ≤ k) where
  again_like : (a : ℕ → Bool) (i : ℕ) → a (lasso k l i) ≡ a (lasso k l (lasso k l i))
  again_like a i = ap a (sym (lasso_twice k l in' i))

  -- a row whose test is g, all round
  plain : {C : Type 0} (x g : ℕ → Bool) (S : Course) → Truth g S → ((i : ℕ) → g i ≡ g (lasso k l i)) → C ↔ ((i : ℕ) → x (lasso k l i) ≡ g i) → (C → Truth (endless k l in' x) S) × (TruthTo (suc k) x S → C)
  plain x g S t c e = ((λ h. told k l in' x g S t (e.0 h)), λ h. e.1 (tells_back k l in' x g S t c h))

  pub prior_low : (a : ℕ → Bool) (v : Bool) (i j : ℕ) → i ≤ k → prior a v i j ≡ prior (endless k l in' a) v i j
  prior_low a v i j h = prior_like a (endless k l in' a) v i j (λ m b. ap a (sym (lasso_low k l in' m (omega arith))))

  closes_not : (t : ℕ) (v : Bool) (a : ℕ → Bool) → Closes k l t v a → Closes k l t (not v) (nots a)
  closes_not t v a h j c = prior_not a v l (suc j) ∙ ap not (h j c)

  -- since, at 0 to k
  since_raw : (x a b : ℕ → Bool) → ((i : ℕ) → i < suc k → x i ≡ since_of (endless k l in' a) (endless k l in' b) i) → (i : ℕ) → i < suc k → x i ≡ (b i || (a i && prior x false i 1))
  since_raw x a b h zero c = h 0 c ∙ ap b (lasso_low k l in' 0 (omega arith)) ∙ sym (upto_none (b 0) (a 0))
  since_raw x a b h (suc i) c =
      let e = lasso_low k l in' (suc i) (omega arith) in
      let r = h (suc i) c in let s = h i (omega arith) in
      let ea = ap a e in let eb = ap b e in cc

  module _ (α : ℕ → Bool) (marks : Marks k α l) (w : ℕ → ℕ → Bool) (a b x e : Lits) (f : ℕ → Formula) where
    abbrev pub Known : Lits → ℕ → Type 0
    Known c n = Truth (endless k l in' (tests α c)) (Sat w (f n))

    abbrev pub Facts : Row → Type 0
    Facts r = ExtrasTell k l w f α e r × SettledRow k l w f r

    abbrev pub LawOf : Clauses → Row → Type 0
    LawOf cs r =
        (sat_all α cs ≡ true → Truth (endless k l in' (tests α x)) (Sat w (form f r)) × Facts r)
        × (Tells α x (suc k) (Sat w (form f r)) × Facts r → sat_all α cs ≡ true)

    abbrev pub Law : Row → Type 0
    Law r = LawOf (row_clauses k a b x e r) r

    -- a row that does not look back has no closing clauses
    ended : (cs : Clauses) (r : Row) → LawOf cs r → LawOf (cs ++ []) r
    ended cs r p = rw (append-nil cs) p

    bare : {A : Type 0} (S : Course) → (A → Truth (endless k l in' (tests α x)) S) × (TruthTo (suc k) (tests α x) S → A) → (A → Truth (endless k l in' (tests α x)) S × (Unit {0} × Unit {0})) × (Tells α x (suc k) S × (Unit {0} × Unit {0}) → A)
    bare S p = ((λ h. (p.0 h, (tt, tt))), λ h. p.1 h.0)

    pub not_row : (m : ℕ) → Known a m → Law (Not m)
    not_row m ha =
        ended (body k a b x e (Not m)) (Not m)
        (bare (Sat w (form f (Not m)))
        (plain (tests α x) (λ i. not (tests α a (lasso k l i))) (Sat w (form f (Not m))) (λ i. Decides-not (tests α a (lasso k l i)) (ha i))
        (λ i. ap not (again_like (tests α a) i)) (not_eqs k l in' α marks x a)))

    pub and_row : (m n : ℕ) → Known a m → Known b n → Law (And m n)
    and_row m n ha hb =
        ended (body k a b x e (And m n)) (And m n)
        (bare (Sat w (form f (And m n)))
        (plain (tests α x) (λ i. tests α a (lasso k l i) && tests α b (lasso k l i)) (Sat w (form f (And m n)))
        (λ i. Decides-and (tests α a (lasso k l i)) (tests α b (lasso k l i)) (ha i) (hb i))
        (λ i. let p = again_like (tests α a) i in let q = again_like (tests α b) i in cc) (and_eqs k l in' α marks x a b)))

    pub or_row : (m n : ℕ) → Known a m → Known b n → Law (Or m n)
    or_row m n ha hb =
        ended (body k a b x e (Or m n)) (Or m n)
        (bare (Sat w (form f (Or m n)))
        (plain (tests α x) (λ i. tests α a (lasso k l i) || tests α b (lasso k l i)) (Sat w (form f (Or m n)))
        (λ i. Decides-or (tests α a (lasso k l i)) (tests α b (lasso k l i)) (ha i) (hb i))
        (λ i. let p = again_like (tests α a) i in let q = again_like (tests α b) i in cc) (or_eqs k l in' α marks x a b)))

    pub next_row : (m : ℕ) → Known a m → Law (Next m)
    next_row m ha =
        ended (body k a b x e (Next m)) (Next m)
        (bare (Sat w (form f (Next m)))
        (plain (tests α x) (λ i. tests α a (lasso k l (suc i))) (Sat w (form f (Next m))) (λ i. ha (suc i))
        (λ i. ap (tests α a) (suc_like k l in' i (lasso k l i) (sym (lasso_twice k l in' i)))) (next_eqs k l in' α marks x a)))

    pub until_row : (m n : ℕ) → Known a m → Known b n → Law (Until m n)
    until_row m n ha hb =
        ended (body k a b x e (Until m n)) (Until m n)
        ((
          (λ h.
              let s = until_sound k l in' (tests α x) (tests α a) (tests α b) (tests α e) (Sat w (f m)) (Sat w (f n)) ha hb ((until_eqs k l in' α marks x a b e).0 h) in
              (s.0, (s.1, tt))),
          λ h. (until_eqs k l in' α marks x a b e).1 (until_complete k l in' (tests α x) (tests α a) (tests α b) (tests α e) (Sat w (f m)) (Sat w (f n)) ha hb h.0 h.1.0),
        ))

    pub release_row : (m n : ℕ) → Known a m → Known b n → Law (Release m n)
    release_row m n ha hb =
        ended (body k a b x e (Release m n)) (Release m n)
        ((
          (λ h.
              let s = release_sound k l in' (tests α x) (tests α a) (tests α b) (tests α e) (Sat w (f m)) (Sat w (f n)) ha hb ((release_eqs k l in' α marks x a b e).0 h) in
              (s.0, (s.1, tt))),
          λ h. (release_eqs k l in' α marks x a b e).1 (release_complete k l in' (tests α x) (tests α a) (tests α b) (tests α e) (Sat w (f m)) (Sat w (f n)) ha hb h.0 h.1.0),
        ))

    -- rows with M
    ahead_row : {A : Type 0} (t m : ℕ) → Known a m → (g : ℕ → Bool) (S : Course) → Truth g S → ((i : ℕ) → g i ≡ g (lasso k l i)) → A ↔ (((i : ℕ) → tests α x (lasso k l i) ≡ g i) × ((j : ℕ) → j < t → tests α e j ≡ tests α a (lasso k l (k + 1 + j)))) → (A → Truth (endless k l in' (tests α x)) S × (Tells α e t (λ j. Sat w (f m) (k + 1 + j)) × Unit {0})) × (Tells α x (suc k) S × (Tells α e t (λ j. Sat w (f m) (k + 1 + j)) × Unit {0}) → A)
    ahead_row t m ha g S tg c q = (
      (λ h. (told k l in' (tests α x) g S tg (q.0 h).0, ((told_iff t (tests α e) (λ j. tests α a (lasso k l (k + 1 + j))) (λ j. Sat w (f m) (k + 1 + j)) (λ j. ha (k + 1 + j))).0 (q.0 h).1, tt))),
      λ h. q.1 (tells_back k l in' (tests α x) g S tg c h.0, (told_iff t (tests α e) (λ j. tests α a (lasso k l (k + 1 + j))) (λ j. Sat w (f m) (k + 1 + j)) (λ j. ha (k + 1 + j))).1 h.1.0),
    )

    pub after_row : (m t : ℕ) → Known a m → Law (After m t)
    after_row m t ha =
        ended (body k a b x e (After m t)) (After m t)
        (ahead_row t m ha (λ i. tests α a (lasso k l (i + t))) (Sat w (form f (After m t))) (λ i. ha (i + t))
        (λ i. ap (tests α a) (add_like k l in' t i (lasso k l i) (sym (lasso_twice k l in' i)))) (after_eqs k l in' α marks t x e a))

    pub within_row : (m t : ℕ) → Known a m → Law (Within m t)
    within_row m t ha =
        ended (body k a b x e (Within m t)) (Within m t)
        (ahead_row t m ha (λ i. some (endless k l in' (tests α a)) i (suc t)) (Sat w (form f (Within m t))) (within-truth (endless k l in' (tests α a)) (Sat w (f m)) ha t)
        (λ i. some_like (endless k l in' (tests α a)) (endless k l in' (tests α a)) (suc t) i (lasso k l i) (λ d c. ap (tests α a) (add_like k l in' d i (lasso k l i) (sym (lasso_twice k l in' i)))))
        (within_eqs k l in' α marks t x e a))

    pub throughout_row : (m t : ℕ) → Known a m → Law (Throughout m t)
    throughout_row m t ha =
        ended (body k a b x e (Throughout m t)) (Throughout m t)
        (ahead_row t m ha (λ i. not (some (nots (endless k l in' (tests α a))) i (suc t))) (Sat w (form f (Throughout m t))) (throughout_truth (endless k l in' (tests α a)) (Sat w (f m)) ha t)
        (λ i. ap not (some_like (nots (endless k l in' (tests α a))) (nots (endless k l in' (tests α a))) (suc t) i (lasso k l i) (λ d c. ap (λ m. not (tests α a m)) (add_like k l in' d i (lasso k l i) (sym (lasso_twice k l in' i))))))
        (Iff.trans (throughout_eqs k l in' α marks t x e a) (Iff.and (each_iff (λ i. flip_iff (tests α x (lasso k l i)) (some (nots (endless k l in' (tests α a))) i (suc t)))) Iff.rfl)))

    -- rows with a past operand
    back_row : {D : Type 0} (t m : ℕ) (u : Bool) → Known a m → (r g : ℕ → Bool) (S : Course) → Truth g S → ((i : ℕ) → i ≤ k → r i ≡ g i) → (Closes k l t u (tests α a) → (i : ℕ) → g i ≡ g (lasso k l i)) → D ↔ (((i : ℕ) → i < suc k → tests α x i ≡ r i) × Closes k l t u (tests α a)) → (D → Truth (endless k l in' (tests α x)) S × (Unit {0} × Closed k l t u (Sat w (f m)))) × (Tells α x (suc k) S × (Unit {0} × Closed k l t u (Sat w (f m))) → D)
    back_row t m u ha r g S tg low c q = (
      (λ h.
          let d = q.0 h in (
            told k l in' (tests α x) g S tg (λ i. let b = lasso_le k l in' i in d.0 (lasso k l i) (omega arith) ∙ low (lasso k l i) b ∙ sym (c d.1 i)),
            (tt, (closed_iff k l in' t u (tests α a) (Sat w (f m)) low_a).0 d.1),
          )),
      λ h. q.1 ((λ i b. (told_iff (suc k) (tests α x) g S tg).1 h.0 i b ∙ sym (low i (omega arith))), (closed_iff k l in' t u (tests α a) (Sat w (f m)) low_a).1 h.1.1),
    )
      where
        low_a : TruthTo (suc k) (tests α a) (Sat w (f m))
        low_a = truth_low k l in' (tests α a) (Sat w (f m)) ha

    pub ago_row : (m t : ℕ) → Known a m → Law (Ago m t)
    ago_row m t ha =
        back_row t m false ha (λ i. prior (tests α a) false i t) (λ i. prior (endless k l in' (tests α a)) false i t) (Sat w (form f (Ago m t)))
        (ago_truth (endless k l in' (tests α a)) (Sat w (f m)) ha t)
        (λ i h. prior_low (tests α a) false i t h) (λ c i. prior_round k l in' t false (tests α a) c i t (omega arith)) (ago_eqs k l in' α marks t false x a)

    pub previous_row : (m : ℕ) → Known a m → Law (Previous m)
    previous_row m ha =
        back_row 1 m false ha (λ i. prior (tests α a) false i 1) (λ i. prior (endless k l in' (tests α a)) false i 1) (Sat w (form f (Previous m)))
        (ago_truth (endless k l in' (tests α a)) (Sat w (f m)) ha 1)
        (λ i h. prior_low (tests α a) false i 1 h) (λ c i. prior_round k l in' 1 false (tests α a) c i 1 (omega arith)) (ago_eqs k l in' α marks 1 false x a)

    pub weak_previous_row : (m : ℕ) → Known a m → Law (WeakPrevious m)
    weak_previous_row m ha =
        back_row 1 m true ha (λ i. prior (tests α a) true i 1) (λ i. prior (endless k l in' (tests α a)) true i 1) (Sat w (form f (WeakPrevious m)))
        (λ i. Decides-like (prior (endless k l in' (tests α a)) true i 1) (λ q. ⊎_elim (λ c. inl (omega arith)) inr q) (λ q. ⊎_elim (λ c. inl (omega arith)) inr q) (weak_ago_truth (endless k l in' (tests α a)) (Sat w (f m)) ha 1 i))
        (λ i h. prior_low (tests α a) true i 1 h) (λ c i. prior_round k l in' 1 true (tests α a) c i 1 (omega arith)) (ago_eqs k l in' α marks 1 true x a)

    pub lately_row : (m t : ℕ) → Known a m → Law (Lately m t)
    lately_row m t ha =
        let s = tests α a in
        back_row t m false ha (λ i. some (prior s false i) 0 (suc t)) (λ i. some (prior (endless k l in' s) false i) 0 (suc t)) (Sat w (form f (Lately m t)))
        (lately_truth (endless k l in' s) (Sat w (f m)) ha t)
        (λ i h. some_like (prior s false i) (prior (endless k l in' s) false i) (suc t) 0 0 (λ d b. prior_low s false i (0 + d) h))
        (λ c i. some_like (prior (endless k l in' s) false i) (prior (endless k l in' s) false (lasso k l i)) (suc t) 0 0 (λ d b. prior_round k l in' t false s c i (0 + d) (omega arith)))
        (lately_eqs k l in' α marks t x a)

    pub steadily_row : (m t : ℕ) → Known a m → Law (Steadily m t)
    steadily_row m t ha =
        let s = tests α a in
        back_row t m true ha (λ i. not (some (prior (nots s) false i) 0 (suc t))) (λ i. not (some (prior (nots (endless k l in' s)) false i) 0 (suc t))) (Sat w (form f (Steadily m t)))
        (steadily_truth (endless k l in' s) (Sat w (f m)) ha t)
        (λ i h. ap not (some_like (prior (nots s) false i) (prior (nots (endless k l in' s)) false i) (suc t) 0 0 (λ d b. prior_low (nots s) false i (0 + d) h)))
        (λ c i. ap not (some_like (prior (nots (endless k l in' s)) false i) (prior (nots (endless k l in' s)) false (lasso k l i)) (suc t) 0 0 (λ d b. prior_round k l in' t false (nots s) (closes_not t true s c) i (0 + d) (omega arith))))
        (Iff.trans (steadily_eqs k l in' α marks t x a) (Iff.and (below_iff (suc k) (λ i b. flip_iff (tests α x i) (some (prior (nots s) false i) 0 (suc t)))) Iff.rfl))

    -- rows that look back at themselves
    self_row : {D R : Type 0} (u : Bool) (g : ℕ → Bool) (S : Course) → Truth g S → (R → Closes k l 1 u (tests α x) → (i : ℕ) → tests α x (lasso k l i) ≡ g i) → (((i : ℕ) → i < suc k → tests α x i ≡ g i) → R) → D ↔ (R × Closes k l 1 u (tests α x)) → (D → Truth (endless k l in' (tests α x)) S × (Unit {0} × Closed k l 1 u S)) × (Tells α x (suc k) S × (Unit {0} × Closed k l 1 u S) → D)
    self_row u g S tg to from q = (
      (λ h.
          let d = q.0 h in
          let t = told k l in' (tests α x) g S tg (to d.0 d.1) in
          (t, (tt, (closed_iff k l in' 1 u (tests α x) S (truth_low k l in' (tests α x) S t)).0 d.1))),
      λ h. q.1 (from ((told_iff (suc k) (tests α x) g S tg).1 h.0), (closed_iff k l in' 1 u (tests α x) S h.0).1 h.1.1),
    )

    pub since_row : (m n : ℕ) → Known a m → Known b n → Law (Since m n)
    since_row m n ha hb =
        self_row false (since_of (endless k l in' (tests α a)) (endless k l in' (tests α b))) (Sat w (form f (Since m n)))
        (since_truth (endless k l in' (tests α a)) (endless k l in' (tests α b)) (Sat w (f m)) (Sat w (f n)) ha hb)
        (λ r c. since_round k l in' (tests α x) (tests α a) (tests α b) c r)
        (since_raw (tests α x) (tests α a) (tests α b)) (since_eqs k l in' α marks x a b)

    pub trigger_row : (m n : ℕ) → Known a m → Known b n → Law (Trigger m n)
    trigger_row m n ha hb =
        self_row true (λ i. not (since_of (nots (endless k l in' (tests α a))) (nots (endless k l in' (tests α b))) i)) (Sat w (form f (Trigger m n)))
        (trigger_truth (endless k l in' (tests α a)) (endless k l in' (tests α b)) (Sat w (f m)) (Sat w (f n)) ha hb)
        (λ r c i. (flip_iff (tests α x (lasso k l i)) (since_of (nots (endless k l in' (tests α a))) (nots (endless k l in' (tests α b))) i)).0
        (since_round k l in' (nots (tests α x)) (nots (tests α a)) (nots (tests α b)) (closes_not 1 true (tests α x) c) (λ i h. (turn i).0 (r i h)) i))
        (λ h i c. (turn i).1 (since_raw (nots (tests α x)) (nots (tests α a)) (nots (tests α b)) (λ i c. (flip_iff (tests α x i) (since_of (nots (endless k l in' (tests α a))) (nots (endless k l in' (tests α b))) i)).1 (h i c)) i c))
        (trigger_eqs k l in' α marks x a b)
      where
        turn : (i : ℕ) → (tests α x i ≡ (tests α b i && (tests α a i || prior (tests α x) true i 1))) ↔ (not (tests α x i) ≡ (not (tests α b i) || (not (tests α a i) && prior (nots (tests α x)) false i 1)))
        turn i = Iff.trans (hold_dual (tests α x i) (tests α b i) (tests α a i) (prior (tests α x) true i 1)) (right_iff (not (tests α x i)) (ap (λ p. not (tests α b i) || (not (tests α a i) && p)) (sym (prior_not (tests α x) true i 1))))
