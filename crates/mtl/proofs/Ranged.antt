-- The clauses of a job name only its own variables, 1 to the highest, and none is empty.
use Rattle.std.proofs.Common.{◌≡◌, ℕ, zero, suc, ◌+◌, ◌-◌, ◌*◌, ◌%◌, ◌<◌, ◌≤◌, Bool, true, false, cond, leb, List, [], ◌∷◌, ◌++◌, map, reverse, length, sym, refl, subst, ⊎_elim, mod-lt, arith}
use Rattle.std.proofs.lemmas.Bool.{cases_lt, le-leb, lt-leb, and_from}
use Rattle.std.proofs.lemmas.List.{length-reverse}
use Rattle.std.specs.List.{AllByRecursion}
use Rattle.std.proofs.ByRecursion.{All-append}
use Rattle.cnf.specs.declared.clause.Literal.{Literal}
use Rattle.cnf.specs.Clauses.{Clause, Clauses, opposite, within, in_range, all_in_range}
use Rattle.mtl.specs.declared.row.Row.{Row}
use Rattle.mtl.specs.declared.row.Row.TheVariants.{Signal, Not, And, Or, Next, Until, Release, After, Within, Throughout, Previous, WeakPrevious, Since, Trigger, Ago, Lately, Steadily}
use Rattle.mtl.specs.declared.requirement.Requirement.{Requirement}
use Rattle.mtl.specs.Shapes.{same, both, either, upto, hold, any, all, given, unit, when, each, Lits, span, down}
use Rattle.mtl.specs.Rows.{operands, first, second, past, extra}
use Rattle.mtl.specs.Lists.{starts, inside, block, begin, period, around, seen, beyond, ahead, delayed, body, closing, closing_of, row_clauses, top, start, value, added, clauses}
use Rattle.mtl.specs.Tables.{requires, Asked, job}
use Rattle.mtl.specs.Statements.{Takes, Ranged}
use Rattle.mtl.proofs.Tables.{Below, Ordered, ordered, fits, newest, top_least}

-- a literal of the variables 1 to n - 1
abbrev pub Ok : ℕ → Literal → Type 0
Ok n p = (0 < p.variable) × (p.variable < n)

-- a clause of such literals that is not empty
abbrev pub Sound : ℕ → Clause → Type 0
Sound n [] = ⊥
Sound n (p ∷ ps) = Ok n p × AllByRecursion (Ok n) ps

abbrev pub Uses : ℕ → Clauses → Type 0
Uses n cs = AllByRecursion (Sound n) cs

module _ (n : ℕ) where
  uses-++ : (cs ds : Clauses) → Uses n cs → Uses n ds → Uses n (cs ++ ds)
  uses-++ cs ds p q = All-append (Sound n) cs ds p q

  uses_when : (g : Literal) (cs : Clauses) → Ok n g → Uses n cs → Uses n (when g cs)
  uses_when g [] o u = tt
  uses_when g (c ∷ cs) o u = ((o, literals c u.0), uses_when g cs o u.1)
    where
      literals : (c : Clause) → Sound n c → AllByRecursion (Ok n) c
      literals [] u = tt
      literals (p ∷ ps) u = u

  uses_from : (f : ℕ → Clauses) (a m : ℕ) → ((i : ℕ) → a ≤ i → i < a + m → Uses n (f i)) → Uses n (each a m f)
  uses_from f a zero h = tt
  uses_from f a (suc m) h = uses-++ (f a) (each (suc a) m f) (h a (omega arith) (omega arith)) (uses_from f (suc a) m (λ i c d. h i (omega arith) (omega arith)))

  uses_each : (f : ℕ → Clauses) (m : ℕ) → ((i : ℕ) → i < m → Uses n (f i)) → Uses n (each 0 m f)
  uses_each f m h = uses_from f 0 m (λ i c d. h i (omega arith))

  uses_any : (x : Literal) (gs : List Literal) → Ok n x → AllByRecursion (Ok n) gs → Uses n (any x gs)
  uses_any x gs o u = ((o, u), rest gs u)
    where
      rest : (gs : List Literal) → AllByRecursion (Ok n) gs → Uses n (map (λ g. x ∷ opposite g ∷ []) gs)
      rest [] u = tt
      rest (g ∷ gs) u = ((o, (u.0, tt)), rest gs u.1)

  uses_all : (x : Literal) (gs : List Literal) → Ok n x → AllByRecursion (Ok n) gs → Uses n (all x gs)
  uses_all x gs o u = uses-++ (map (λ g. opposite x ∷ g ∷ []) gs) ((x ∷ map opposite gs) ∷ []) (rest gs u) ((o, turn gs u), tt)
    where
      rest : (gs : List Literal) → AllByRecursion (Ok n) gs → Uses n (map (λ g. opposite x ∷ g ∷ []) gs)
      rest [] u = tt
      rest (g ∷ gs) u = ((o, (u.0, tt)), rest gs u.1)

      turn : (gs : List Literal) → AllByRecursion (Ok n) gs → AllByRecursion (Ok n) (map opposite gs)
      turn [] u = tt
      turn (g ∷ gs) u = (u.0, turn gs u.1)

  ok_given : (v : Bool) (p : Literal) → Ok n p → Ok n (given v p)
  ok_given true p o = o
  ok_given false p o = o

  ok_span : (f : Lits) (i m : ℕ) → ((j : ℕ) → i ≤ j → j < i + m → Ok n (f j)) → AllByRecursion (Ok n) (span f i m)
  ok_span f i zero h = tt
  ok_span f i (suc m) h = (h i (omega arith) (omega arith), ok_span f (suc i) m (λ j c d. h j (omega arith) (omega arith)))

  ok_down : (f : Lits) (i t : ℕ) → ((j : ℕ) → j ≤ i → Ok n (f j)) → AllByRecursion (Ok n) (down f i t)
  ok_down f i zero h = (h i (omega arith), tt)
  ok_down f zero (suc t) h = (h 0 (omega arith), tt)
  ok_down f (suc i) (suc t) h = (h (suc i) (omega arith), ok_down f i t (λ j c. h j (omega arith)))

  uses_same : (x y : Literal) → Ok n x → Ok n y → Uses n (same x y)
  uses_same x y p q = ((p, (q, tt)), ((p, (q, tt)), tt))

  uses_upto : (x b a y : Literal) → Ok n x → Ok n b → Ok n a → Ok n y → Uses n (upto x b a y)
  uses_upto x b a y p q r s = ((p, (q, (r, tt))), ((p, (q, (s, tt))), ((p, (q, tt)), ((p, (r, (s, tt))), tt))))

  uses_hold : (x b a y : Literal) → Ok n x → Ok n b → Ok n a → Ok n y → Uses n (hold x b a y)
  uses_hold x b a y p q r s = ((p, (q, tt)), ((p, (r, (s, tt))), ((p, (q, (r, tt))), ((p, (q, (s, tt))), tt))))

  module _ (k : ℕ) (big : 2 * k + 3 ≤ n) where
    ok_loop : (i : ℕ) → i ≤ k → Ok n (starts i)
    ok_loop i h = (omega arith, omega arith)

    ok_in : (i : ℕ) → i ≤ k → Ok n (inside k i)
    ok_in i h = (omega arith, omega arith)

    -- literals for 0 to k
    abbrev Oks : Lits → Type 0
    Oks f = (i : ℕ) → i ≤ k → Ok n (f i)

    uses_around : (R : ℕ → ℕ → Clauses) → ((i m : ℕ) → i ≤ k → m ≤ k → Uses n (R i m)) → Uses n (around k R)
    uses_around R h =
        uses-++ (each 0 k (λ i. R i (suc i))) (each 0 (suc k) (λ l. when (starts l) (R k l)))
        (uses_each (λ i. R i (suc i)) k (λ i c. h i (suc i) (omega arith) (omega arith)))
        (uses_each (λ l. when (starts l) (R k l)) (suc k) (λ l c. uses_when (starts l) (R k l) (ok_loop l (omega arith)) (h k l (omega arith) (omega arith))))

    uses_seen : (e b : Lits) → Oks e → Oks b → Uses n (seen k e b)
    uses_seen e b oe ob =
        let i0 = ok_in 0 (omega arith) in let e0 = oe 0 (omega arith) in let b0 = ob 0 (omega arith) in
        uses-++ (both (e 0) (inside k 0) (b 0)) (each 0 k (λ i. upto (e (suc i)) (e i) (inside k (suc i)) (b (suc i))))
        ((e0, (i0, tt)), ((e0, (b0, tt)), ((e0, (i0, (b0, tt))), tt)))
        (uses_each (λ i. upto (e (suc i)) (e i) (inside k (suc i)) (b (suc i))) k
        (λ i c. uses_upto (e (suc i)) (e i) (inside k (suc i)) (b (suc i)) (oe (suc i) c) (oe i (omega arith)) (ok_in (suc i) c) (ob (suc i) c)))

    uses_closing : (t : ℕ) (v : Bool) (s : Lits) → Oks s → Uses n (closing k t v s)
    uses_closing t v s o =
        uses_each (λ l. each 0 t (λ j. when (starts l) (end l j))) (suc k)
        (λ l c. uses_each (λ j. when (starts l) (end l j)) t (λ j d. uses_when (starts l) (end l j) (ok_loop l (omega arith)) (one l j (omega arith))))
      where
        end : ℕ → ℕ → Clauses
        end l j = cond (leb (suc j) l) (same (s (l - suc j)) (s (k - j % period k l))) ((given v (s (k - j % period k l)) ∷ []) ∷ [])

        one : (l j : ℕ) → l ≤ k → Uses n (end l j)
        one l j h = pick (leb (suc j) l)
          where
            q : Ok n (s (k - j % period k l))
            q = o (k - j % period k l) (omega arith)

            p : Ok n (s (l - suc j))
            p = o (l - suc j) (omega arith)

            pick : (b : Bool) → Uses n (cond b (same (s (l - suc j)) (s (k - j % period k l))) ((given v (s (k - j % period k l)) ∷ []) ∷ []))
            pick true = ((p, (q, tt)), ((p, (q, tt)), tt))
            pick false = ((ok_given v (s (k - j % period k l)) q, tt), tt)

    uses_beyond : (t : ℕ) (m a : Lits) → ((j : ℕ) → j < t → Ok n (m j)) → Oks a → Uses n (beyond k t m a)
    uses_beyond t m a om oa =
        uses_each (λ j. each 0 (suc k) (λ l. when (starts l) (same (m j) (a (l + j % period k l))))) t
        (λ j d. uses_each (λ l. when (starts l) (same (m j) (a (l + j % period k l)))) (suc k)
        (λ l c. uses_when (starts l) (same (m j) (a (l + j % period k l))) (ok_loop l (omega arith)) (uses_same (m j) (a (l + j % period k l)) (om j d) (oa (l + j % period k l) (low l j (omega arith))))))
      where
        low : (l j : ℕ) → l ≤ k → l + j % period k l ≤ k
        low l j h = let r : j % period k l < period k l = mod-lt j (omega arith) in omega arith

    ok_ahead : (t : ℕ) (m a : Lits) → ((j : ℕ) → j < t → Ok n (m j)) → Oks a → (i : ℕ) → i ≤ k + t → Ok n (ahead k a m i)
    ok_ahead t m a om oa i h = ⊎_elim (λ c. subst (λ b. Ok n (cond b (a i) (m (i - k - 1)))) (sym (lt-leb i k c)) (om (i - k - 1) (omega arith))) (λ c. subst (λ b. Ok n (cond b (a i) (m (i - k - 1)))) (sym (le-leb i k c)) (oa i c)) (cases_lt k i)

    uses_delayed : (t : ℕ) (u : Bool) (x a : Lits) → Oks x → Oks a → Uses n (delayed k t u x a)
    uses_delayed t u x a ox oa =
        uses_each (λ i. cond (leb t i) (same (x i) (a (i - t))) (unit (given u (x i)))) (suc k) (λ i c. pick i (omega arith) (leb t i))
      where
        pick : (i : ℕ) → i ≤ k → (b : Bool) → Uses n (cond b (same (x i) (a (i - t))) (unit (given u (x i))))
        pick i c true = uses_same (x i) (a (i - t)) (ox i c) (oa (i - t) (omega arith))
        pick i c false = ((ok_given u (x i) (ox i c), tt), tt)

    body_uses : (v : ℕ → Lits) (x e : Lits) (d : ℕ) (r : Row) → Below d (operands r) → ((m : ℕ) → m < d → Oks (v m)) → Oks x → ((j : ℕ) → j < extra k r → Ok n (e j)) → Uses n (body k (v (first r)) (v (second r)) x e r)
    body_uses v x e d (Signal a) o ov ox oe = tt
    body_uses v x e d (Not a) o ov ox oe = uses_each (λ i. same (x i) (opposite (v a i))) (suc k) (λ i c. uses_same (x i) (opposite (v a i)) (ox i (omega arith)) (ov a o.0 i (omega arith)))
    body_uses v x e d (And a b) o ov ox oe = uses_each (λ i. both (x i) (v a i) (v b i)) (suc k) (λ i c. let p = ox i (omega arith) in let q = ov a o.0 i (omega arith) in let r = ov b o.1.0 i (omega arith) in ((p, (q, tt)), ((p, (r, tt)), ((p, (q, (r, tt))), tt))))
    body_uses v x e d (Or a b) o ov ox oe = uses_each (λ i. either (x i) (v a i) (v b i)) (suc k) (λ i c. let p = ox i (omega arith) in let q = ov a o.0 i (omega arith) in let r = ov b o.1.0 i (omega arith) in ((p, (q, (r, tt))), ((p, (q, tt)), ((p, (r, tt)), tt))))
    body_uses v x e d (Next a) o ov ox oe = uses_around (λ i m. same (x i) (v a m)) (λ i m c g. uses_same (x i) (v a m) (ox i c) (ov a o.0 m g))
    body_uses v x e d (Until a b) o ov ox oe =
        uses-++ (around k (λ i m. upto (x i) (v b i) (v a i) (x m)) ++ seen k e (v b)) ((opposite (x k) ∷ e k ∷ []) ∷ [])
        (uses-++ (around k (λ i m. upto (x i) (v b i) (v a i) (x m))) (seen k e (v b)) (uses_around (λ i m. upto (x i) (v b i) (v a i) (x m)) (λ i m c g. uses_upto (x i) (v b i) (v a i) (x m) (ox i c) (ov b o.1.0 i c) (ov a o.0 i c) (ox m g))) (uses_seen e (v b) (λ i c. oe i (omega arith)) (ov b o.1.0)))
        ((ox k (omega arith), (oe k (omega arith), tt)), tt)
    body_uses v x e d (Release a b) o ov ox oe =
        uses-++ (around k (λ i m. hold (x i) (v b i) (v a i) (x m)) ++ seen k e (λ i. opposite (v b i))) ((x k ∷ e k ∷ []) ∷ [])
        (uses-++ (around k (λ i m. hold (x i) (v b i) (v a i) (x m))) (seen k e (λ i. opposite (v b i))) (uses_around (λ i m. hold (x i) (v b i) (v a i) (x m)) (λ i m c g. uses_hold (x i) (v b i) (v a i) (x m) (ox i c) (ov b o.1.0 i c) (ov a o.0 i c) (ox m g))) (uses_seen e (λ i. opposite (v b i)) (λ i c. oe i (omega arith)) (λ i c. ov b o.1.0 i c)))
        ((ox k (omega arith), (oe k (omega arith), tt)), tt)
    body_uses v x e d (After a t) o ov ox oe =
        uses-++ (each 0 (suc k) (λ i. same (x i) (ahead k (v a) e (i + t)))) (beyond k t e (v a))
        (uses_each (λ i. same (x i) (ahead k (v a) e (i + t))) (suc k) (λ i c. uses_same (x i) (ahead k (v a) e (i + t)) (ox i (omega arith)) (ok_ahead t e (v a) oe (ov a o.0) (i + t) (omega arith))))
        (uses_beyond t e (v a) oe (ov a o.0))
    body_uses v x e d (Within a t) o ov ox oe =
        uses-++ (each 0 (suc k) (λ i. any (x i) (span (ahead k (v a) e) i (suc t)))) (beyond k t e (v a))
        (uses_each (λ i. any (x i) (span (ahead k (v a) e) i (suc t))) (suc k) (λ i c. uses_any (x i) (span (ahead k (v a) e) i (suc t)) (ox i (omega arith)) (ok_span (ahead k (v a) e) i (suc t) (λ j g h. ok_ahead t e (v a) oe (ov a o.0) j (omega arith)))))
        (uses_beyond t e (v a) oe (ov a o.0))
    body_uses v x e d (Throughout a t) o ov ox oe =
        uses-++ (each 0 (suc k) (λ i. all (x i) (span (ahead k (v a) e) i (suc t)))) (beyond k t e (v a))
        (uses_each (λ i. all (x i) (span (ahead k (v a) e) i (suc t))) (suc k) (λ i c. uses_all (x i) (span (ahead k (v a) e) i (suc t)) (ox i (omega arith)) (ok_span (ahead k (v a) e) i (suc t) (λ j g h. ok_ahead t e (v a) oe (ov a o.0) j (omega arith)))))
        (uses_beyond t e (v a) oe (ov a o.0))
    body_uses v x e d (Previous a) o ov ox oe = uses_delayed 1 false x (v a) ox (ov a o.0)
    body_uses v x e d (WeakPrevious a) o ov ox oe = uses_delayed 1 true x (v a) ox (ov a o.0)
    body_uses v x e d (Since a b) o ov ox oe =
        uses-++ (same (x 0) (v b 0)) (each 0 k (λ i. upto (x (suc i)) (v b (suc i)) (v a (suc i)) (x i))) (uses_same (x 0) (v b 0) (ox 0 (omega arith)) (ov b o.1.0 0 (omega arith)))
        (uses_each (λ i. upto (x (suc i)) (v b (suc i)) (v a (suc i)) (x i)) k (λ i c. uses_upto (x (suc i)) (v b (suc i)) (v a (suc i)) (x i) (ox (suc i) c) (ov b o.1.0 (suc i) c) (ov a o.0 (suc i) c) (ox i (omega arith))))
    body_uses v x e d (Trigger a b) o ov ox oe =
        uses-++ (same (x 0) (v b 0)) (each 0 k (λ i. hold (x (suc i)) (v b (suc i)) (v a (suc i)) (x i))) (uses_same (x 0) (v b 0) (ox 0 (omega arith)) (ov b o.1.0 0 (omega arith)))
        (uses_each (λ i. hold (x (suc i)) (v b (suc i)) (v a (suc i)) (x i)) k (λ i c. uses_hold (x (suc i)) (v b (suc i)) (v a (suc i)) (x i) (ox (suc i) c) (ov b o.1.0 (suc i) c) (ov a o.0 (suc i) c) (ox i (omega arith))))
    body_uses v x e d (Ago a t) o ov ox oe = uses_delayed t false x (v a) ox (ov a o.0)
    body_uses v x e d (Lately a t) o ov ox oe =
        uses_each (λ i. any (x i) (down (v a) i t)) (suc k) (λ i c. uses_any (x i) (down (v a) i t) (ox i (omega arith)) (ok_down (v a) i t (λ j g. ov a o.0 j (omega arith))))
    body_uses v x e d (Steadily a t) o ov ox oe =
        uses_each (λ i. all (x i) (down (v a) i t)) (suc k) (λ i c. uses_all (x i) (down (v a) i t) (ox i (omega arith)) (ok_down (v a) i t (λ j g. ov a o.0 j (omega arith))))

    ends : (v : ℕ → Lits) (x : Lits) (d : ℕ) (r : Row) → Below d (operands r) → ((m : ℕ) → m < d → Oks (v m)) → Oks x → Uses n (closing_of k (v (first r)) x (past r))
    ends v x d (Signal a) o ov ox = tt
    ends v x d (Not a) o ov ox = tt
    ends v x d (And a b) o ov ox = tt
    ends v x d (Or a b) o ov ox = tt
    ends v x d (Next a) o ov ox = tt
    ends v x d (Until a b) o ov ox = tt
    ends v x d (Release a b) o ov ox = tt
    ends v x d (After a t) o ov ox = tt
    ends v x d (Within a t) o ov ox = tt
    ends v x d (Throughout a t) o ov ox = tt
    ends v x d (Previous a) o ov ox = uses_closing 1 false (v a) (ov a o.0)
    ends v x d (WeakPrevious a) o ov ox = uses_closing 1 true (v a) (ov a o.0)
    ends v x d (Since a b) o ov ox = uses_closing 1 false x ox
    ends v x d (Trigger a b) o ov ox = uses_closing 1 true x ox
    ends v x d (Ago a t) o ov ox = uses_closing t false (v a) (ov a o.0)
    ends v x d (Lately a t) o ov ox = uses_closing t false (v a) (ov a o.0)
    ends v x d (Steadily a t) o ov ox = uses_closing t true (v a) (ov a o.0)

    pub row_uses : (v : ℕ → Lits) (x e : Lits) (d : ℕ) (r : Row) → Below d (operands r) → ((m : ℕ) → m < d → Oks (v m)) → Oks x → ((j : ℕ) → j < extra k r → Ok n (e j)) → Uses n (row_clauses k (v (first r)) (v (second r)) x e r)
    row_uses v x e d r o ov ox oe =
        uses-++ (body k (v (first r)) (v (second r)) x e r) (closing_of k (v (first r)) x (past r)) (body_uses v x e d r o ov ox oe) (ends v x d r o ov ox)

    uses_begin : Uses n (begin k)
    uses_begin =
        uses-++ ((span starts 0 (suc k) ∷ []) ++ each 0 k (λ i. (opposite (inside k i) ∷ opposite (starts (suc i)) ∷ []) ∷ []) ++ same (inside k 0) (starts 0)) (each 0 k (λ i. either (inside k (suc i)) (inside k i) (starts (suc i))))
        (uses-++ ((span starts 0 (suc k) ∷ []) ++ each 0 k (λ i. (opposite (inside k i) ∷ opposite (starts (suc i)) ∷ []) ∷ [])) (same (inside k 0) (starts 0))
        (uses-++ (span starts 0 (suc k) ∷ []) (each 0 k (λ i. (opposite (inside k i) ∷ opposite (starts (suc i)) ∷ []) ∷ []))
        (ok_span starts 0 (suc k) (λ j c g. ok_loop j (omega arith)), tt)
        (uses_each (λ i. (opposite (inside k i) ∷ opposite (starts (suc i)) ∷ []) ∷ []) k (λ i c. ((ok_in i (omega arith), (ok_loop (suc i) c, tt)), tt))))
        (uses_same (inside k 0) (starts 0) (ok_in 0 (omega arith)) (ok_loop 0 (omega arith))))
        (uses_each (λ i. either (inside k (suc i)) (inside k i) (starts (suc i))) k (λ i c. let p = ok_in (suc i) c in let q = ok_in i (omega arith) in let r = ok_loop (suc i) c in ((p, (q, (r, tt))), ((p, (q, tt)), ((p, (r, tt)), tt)))))

    ok_value : (rs : List Row) → top k rs ≤ n → (m : ℕ) → m < length rs → Oks (value k rs m)
    ok_value [] g m h i c = absurd (omega arith)
    ok_value (r ∷ rs) g m h i c =
        newest (λ b. Ok n (block (cond b (top k rs) (start k rs m)) i)) m (length rs) h (λ e. let q = top_least k rs in (omega arith, omega arith)) (λ b. ok_value rs (omega arith) m b i c)

    uses_added : (rs : List Row) (r : Row) → Below (length rs) (operands r) → top k (r ∷ rs) ≤ n → Uses n (added k rs r)
    uses_added rs r o g =
        let q = top_least k rs in
        row_uses (value k rs) (block (top k rs)) (block (top k rs + suc k)) (length rs) r o (ok_value rs (omega arith)) (λ i c. (omega arith, omega arith)) (λ j c. (omega arith, omega arith))

    uses_clauses : (rs : List Row) → Ordered rs → top k rs ≤ n → Uses n (clauses k rs)
    uses_clauses [] o g = tt
    uses_clauses (r ∷ rs) o g = uses-++ (clauses k rs) (added k rs r) (uses_clauses rs o.0 (omega arith)) (uses_added rs r o.1 g)

    uses_requires : (rs : List Row) (qs : List Requirement) → top k rs ≤ n → Asked k (length rs) qs → Uses n (requires k rs qs)
    uses_requires rs [] g o = tt
    uses_requires rs (q ∷ qs) g o = ((ok_given q.value (value k rs q.row q.instant) (ok_value rs g q.row o.0 q.instant o.1), tt), uses_requires rs qs g o.2)

in_range_from : (n : ℕ) (c : Clause) → AllByRecursion (Ok n) c → in_range (n - 1) c ≡ true
in_range_from n [] u = refl
in_range_from n (p ∷ ps) u =
    and_from (within (n - 1) p) (in_range (n - 1) ps)
    (and_from (leb 1 p.variable) (leb p.variable (n - 1)) (le-leb 1 p.variable u.0.0) (le-leb p.variable (n - 1) (omega (arith, u.0.1))))
    (in_range_from n ps u.1)

taken : (n : ℕ) (cs : Clauses) → Uses n cs → Takes (n - 1) cs
taken n [] u = record { ranged = refl; full = refl }
taken n ([] ∷ cs) u = absurd u.0
taken n ((p ∷ ps) ∷ cs) u =
    let q = taken n cs u.1 in
    record { ranged = and_from (in_range (n - 1) (p ∷ ps)) (all_in_range (n - 1) cs) (in_range_from n (p ∷ ps) u.0) q.ranged; full = q.full }

pub ranged : Ranged
ranged = record {
  begins = λ k. let e : 2 * k + 3 - 1 ≡ 2 * k + 2 = omega arith in subst (λ n. Takes n (begin k)) e (taken (2 * k + 3) (begin k) (uses_begin (2 * k + 3) k (omega arith)));
  row_added = λ k rows r h.
      taken (top k (r ∷ reverse rows)) (added k (reverse rows) r)
      (uses_added (top k (r ∷ reverse rows)) k (top_least k (r ∷ reverse rows)) (reverse rows) r (subst (λ n. Below n (operands r)) (sym (length-reverse rows)) (fits rows r h).operands) (omega arith));
  required = λ k rows qs a.
      taken (top k (reverse rows)) (requires k (reverse rows) qs)
      (uses_requires (top k (reverse rows)) k (top_least k (reverse rows)) (reverse rows) qs (omega arith) (subst (λ n. Asked k n qs) (sym (length-reverse rows)) a));
  whole = λ k rows qs o a.
      let rs = reverse rows in
      let n = top k rs in
      let big = top_least k rs in
      taken n (job k rs qs)
      (uses-++ n (begin k ++ clauses k rs) (requires k rs qs)
      (uses-++ n (begin k) (clauses k rs) (uses_begin n k big) (uses_clauses n k big rs (ordered rows o) (omega arith)))
      (uses_requires n k big rs qs (omega arith) (subst (λ m. Asked k m qs) (sym (length-reverse rows)) a)));
}
