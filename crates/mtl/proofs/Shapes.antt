-- What the clauses of each shape say of the truth of their literals.
use Rattle.std.proofs.Common.{◌≡◌, ℕ, zero, suc, ◌+◌, ◌<◌, Bool, true, false, cond, not, ◌&&◌, ◌||◌, ◌↔◌, List, [], ◌∷◌, ◌++◌, map, sym, refl, not-suc-le-zero, add-zero, zero-add, arith}
use mathlib.Core.Logic.Iff
use mathlib.Core.Bool.{beq}
use Rattle.std.proofs.lemmas.Bool.{true≢false, and_parts, and_from}
use Rattle.cnf.specs.declared.clause.Literal.{Literal}
use Rattle.cnf.specs.Clauses.{Clauses, opposite, truth, sat, sat_all}
use Rattle.mtl.specs.Shapes.{same, both, either, upto, hold, any, all, given, when, each, span}

flip : (s b : Bool) → cond (not s) b (not b) ≡ not (cond s b (not b))
flip true b = refl
flip false true = refl
flip false false = refl

pub truth-opposite : (α : ℕ → Bool) (p : Literal) → truth α (opposite p) ≡ not (truth α p)
truth-opposite α p = flip p.positive (α p.variable)

pub beq_iff : (p q : Bool) → (beq p q ≡ true) ↔ (p ≡ q)
beq_iff true true = (λ _. refl, λ _. refl)
beq_iff true false = (λ e. sym e, λ e. sym e)
beq_iff false true = (λ e. e, λ e. e)
beq_iff false false = (λ _. refl, λ _. refl)

pub and_iff : (p q : Bool) → ((p && q) ≡ true) ↔ ((p ≡ true) × (q ≡ true))
and_iff p q = (and_parts p q, λ h. and_from p q h.0 h.1)

-- the shapes on tests
same_test : (x y : Bool) → ((not x || (y || false)) && ((x || (not y || false)) && true)) ≡ beq x y
same_test x y = grind arith

both_test : (x a b : Bool) → ((not x || (a || false)) && ((not x || (b || false)) && ((x || (not a || (not b || false))) && true))) ≡ beq x (a && b)
both_test x a b = grind arith

either_test : (x a b : Bool) → ((not x || (a || (b || false))) && ((x || (not a || false)) && ((x || (not b || false)) && true))) ≡ beq x (a || b)
either_test x a b = grind arith

upto_test : (x b a y : Bool) → ((not x || (b || (a || false))) && ((not x || (b || (y || false))) && ((x || (not b || false)) && ((x || (not a || (not y || false))) && true)))) ≡ beq x (b || (a && y))
upto_test x b a y = grind arith

hold_test : (x b a y : Bool) → ((not x || (b || false)) && ((not x || (a || (y || false))) && ((x || (not b || (not a || false))) && ((x || (not b || (not y || false))) && true)))) ≡ beq x (b && (a || y))
hold_test x b a y = grind arith

-- hold is what upto is not
pub hold_dual : (x b a y : Bool) → (x ≡ (b && (a || y))) ↔ (not x ≡ (not b || (not a && not y)))
hold_dual x b a y = (λ h. grind arith, λ h. grind arith)

-- upto with nothing after it
pub upto_none : (p q : Bool) → (p || (q && false)) ≡ p
upto_none p q = grind arith

module _ (α : ℕ → Bool) where
  pub same_law : (x y : Literal) → (sat_all α (same x y) ≡ true) ↔ (truth α x ≡ truth α y)
  same_law x y = simp (truth-opposite α, same_test, beq_iff) Iff.rfl

  pub both_law : (x a b : Literal) → (sat_all α (both x a b) ≡ true) ↔ (truth α x ≡ (truth α a && truth α b))
  both_law x a b = simp (truth-opposite α, both_test, beq_iff) Iff.rfl

  pub either_law : (x a b : Literal) → (sat_all α (either x a b) ≡ true) ↔ (truth α x ≡ (truth α a || truth α b))
  either_law x a b = simp (truth-opposite α, either_test, beq_iff) Iff.rfl

  pub upto_law : (x b a y : Literal) → (sat_all α (upto x b a y) ≡ true) ↔ (truth α x ≡ (truth α b || (truth α a && truth α y)))
  upto_law x b a y = simp (truth-opposite α, upto_test, beq_iff) Iff.rfl

  pub hold_law : (x b a y : Literal) → (sat_all α (hold x b a y) ≡ true) ↔ (truth α x ≡ (truth α b && (truth α a || truth α y)))
  hold_law x b a y = simp (truth-opposite α, hold_test, beq_iff) Iff.rfl

  -- lists of clauses
  pub sat-append : (cs ds : Clauses) → sat_all α (cs ++ ds) ≡ (sat_all α cs && sat_all α ds)
  sat-append [] ds = refl
  sat-append (c ∷ cs) ds = rw (sat-append cs ds) (assoc (sat α c) (sat_all α cs) (sat_all α ds))
    where
      assoc : (p q r : Bool) → (p && (q && r)) ≡ ((p && q) && r)
      assoc p q r = grind arith

  pub append_law : (cs ds : Clauses) → (sat_all α (cs ++ ds) ≡ true) ↔ ((sat_all α cs ≡ true) × (sat_all α ds ≡ true))
  append_law cs ds = simp (sat-append, and_iff) Iff.rfl

  pub each_from : (f : ℕ → Clauses) (n a : ℕ) → (sat_all α (each a n f) ≡ true) ↔ ((i : ℕ) → i < n → sat_all α (f (a + i)) ≡ true)
  each_from f zero a = (λ _ i h. absurd (not-suc-le-zero h), λ _. refl)
  each_from f (suc n) a = (
    λ h. up ((append_law (f a) (each (suc a) n f)).0 h).0 ((each_from f n (suc a)).0 ((append_law (f a) (each (suc a) n f)).0 h).1),
    λ h. (append_law (f a) (each (suc a) n f)).1 (
      rw add-zero at (h 0 (omega arith)),
      (each_from f n (suc a)).1 (λ i l. let e : suc a + i ≡ a + suc i = omega arith in rw e (h (suc i) (omega arith))),
    ),
  )
    where
      up : (sat_all α (f a) ≡ true) → ((i : ℕ) → i < n → sat_all α (f (suc a + i)) ≡ true) → (i : ℕ) → i < suc n → sat_all α (f (a + i)) ≡ true
      up h r zero l = rw add-zero h
      up h r (suc i) l = let e : a + suc i ≡ suc a + i = omega arith in rw e (r i (omega arith))

  pub each_law : (f : ℕ → Clauses) (n : ℕ) → (sat_all α (each 0 n f) ≡ true) ↔ ((i : ℕ) → i < n → sat_all α (f i) ≡ true)
  each_law f n = (λ h i l. rw zero-add at ((each_from f n 0).0 h i l), λ h. (each_from f n 0).1 (λ i l. rw zero-add (h i l)))

  sat-when : (g : Literal) (cs : Clauses) → sat_all α (when g cs) ≡ (not (truth α g) || sat_all α cs)
  sat-when g [] = last (truth α g)
    where
      last : (p : Bool) → true ≡ (not p || true)
      last p = grind arith
  sat-when g (c ∷ cs) = rw (sat-when g cs) (rw (truth-opposite α g) (dist (truth α g) (sat α c) (sat_all α cs)))
    where
      dist : (g c r : Bool) → ((not g || c) && (not g || r)) ≡ (not g || (c && r))
      dist g c r = grind arith

  pub when_law : (g : Literal) (cs : Clauses) → (sat_all α (when g cs) ≡ true) ↔ (truth α g ≡ true → sat_all α cs ≡ true)
  when_law g cs = rw sat-when (imp (truth α g) (sat_all α cs))
    where
      imp : (p q : Bool) → ((not p || q) ≡ true) ↔ (p ≡ true → q ≡ true)
      imp true q = (λ e _. e, λ f. f refl)
      imp false q = (λ _ e. absurd (true≢false (sym e)), λ _. refl)

  pub unit_law : (p : Literal) → (sat_all α ((p ∷ []) ∷ []) ≡ true) ↔ (truth α p ≡ true)
  unit_law p = one (truth α p)
    where
      one : (q : Bool) → (((q || false) && true) ≡ true) ↔ (q ≡ true)
      one true = Iff.rfl
      one false = Iff.rfl

  pub pair_law : (p q : Literal) → (sat_all α ((p ∷ q ∷ []) ∷ []) ≡ true) ↔ ((truth α p || truth α q) ≡ true)
  pair_law p q = two (truth α p) (truth α q)
    where
      two : (p q : Bool) → (((p || (q || false)) && true) ≡ true) ↔ ((p || q) ≡ true)
      two true q = Iff.rfl
      two false true = Iff.rfl
      two false false = Iff.rfl

  pub any_law : (x : Literal) (gs : List Literal) → (sat_all α (any x gs) ≡ true) ↔ (truth α x ≡ sat α gs)
  any_law x gs = simp (truth-opposite α, below gs, equal, beq_iff) Iff.rfl
    where
      below : (gs : List Literal) → sat_all α (map (λ g. x ∷ opposite g ∷ []) gs) ≡ (truth α x || not (sat α gs))
      below [] = t (truth α x)
        where
          t : (p : Bool) → true ≡ (p || true)
          t p = grind arith
      below (g ∷ gs) = rw (below gs) (rw (truth-opposite α g) (t (truth α x) (truth α g) (sat α gs)))
        where
          t : (p q r : Bool) → ((p || (not q || false)) && (p || not r)) ≡ (p || not (q || r))
          t p q r = grind arith

      equal : (p q : Bool) → ((not p || q) && (p || not q)) ≡ beq p q
      equal p q = grind arith

  pub all_law : (x : Literal) (gs : List Literal) → (sat_all α (all x gs) ≡ true) ↔ (not (truth α x) ≡ sat α (map opposite gs))
  all_law x gs = simp (sat-append, below gs, equal, beq_iff) Iff.rfl
    where
      below : (gs : List Literal) → sat_all α (map (λ g. opposite x ∷ g ∷ []) gs) ≡ (not (truth α x) || not (sat α (map opposite gs)))
      below [] = t (truth α x)
        where
          t : (p : Bool) → true ≡ (not p || true)
          t p = grind arith
      below (g ∷ gs) = rw (below gs) (rw (truth-opposite α g, truth-opposite α x) (t (truth α x) (truth α g) (sat α (map opposite gs))))
        where
          t : (p q r : Bool) → ((not p || (q || false)) && (not p || not r)) ≡ (not p || not (not q || r))
          t p q r = grind arith

      equal : (p q : Bool) → ((not p || not q) && ((p || q) && true)) ≡ beq (not p) q
      equal p q = grind arith

-- one of n values from i on
abbrev pub some : (ℕ → Bool) → ℕ → ℕ → Bool
some f i zero = false
some f i (suc n) = f i || some f (suc i) n

pub sat-span : (α : ℕ → Bool) (g : ℕ → Literal) (i n : ℕ) → sat α (span g i n) ≡ some (λ j. truth α (g j)) i n
sat-span α g i zero = refl
sat-span α g i (suc n) = rw (sat-span α g (suc i) n)

pub sat_span_opposite : (α : ℕ → Bool) (g : ℕ → Literal) (i n : ℕ) → sat α (map opposite (span g i n)) ≡ some (λ j. not (truth α (g j))) i n
sat_span_opposite α g i zero = refl
sat_span_opposite α g i (suc n) = rw (sat_span_opposite α g (suc i) n, truth-opposite α (g i))

pub truth-given : (α : ℕ → Bool) (v : Bool) (p : Literal) → (truth α (given v p) ≡ true) ↔ (truth α p ≡ v)
truth-given α true p = Iff.rfl
truth-given α false p = rw (truth-opposite α p) (t (truth α p))
  where
    t : (q : Bool) → (not q ≡ true) ↔ (q ≡ false)
    t true = (λ e. sym e, λ e. sym e)
    t false = (λ _. refl, λ _. refl)
