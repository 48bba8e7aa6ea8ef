-- How many cells the clauses of begin and of each row take, and how many literals the longest has.
use Rattle.std.proofs.Common.{◌≡◌, ℕ, zero, suc, ◌+◌, ◌-◌, ◌*◌, ◌%◌, ◌≤◌, min, max, Bool, true, false, cond, leb, List, [], ◌∷◌, ◌++◌, map, reverse, length, Some, None, Option, sym, refl, ap, ◌∙◌, arith}
use Rattle.std.proofs.lemmas.Bool.{le-leb}
use Rattle.std.proofs.lemmas.Bool.Decides.{nat_tests}
use Rattle.cnf.specs.declared.clause.Literal.{Literal}
use Rattle.cnf.specs.Clauses.{Clauses, opposite, cells_of, longest_of}
use Rattle.mtl.specs.declared.cells.Use.TheVariants.{Delayed}
use Rattle.mtl.specs.declared.operator.Shape.TheVariants.{Same}
use Rattle.mtl.specs.declared.row.Row.{Row}
use Rattle.mtl.specs.declared.row.Row.TheVariants.{Signal, Not, And, Or, Next, Until, Release, After, Within, Throughout, Previous, WeakPrevious, Since, Trigger, Ago, Lately, Steadily}
use Rattle.mtl.specs.Shapes.{same, both, either, upto, hold, any, all, given, unit, when, each, Lits, span, down}
use Rattle.mtl.specs.Rows.{Past, past, first, second, distance, operator_of}
use Rattle.mtl.specs.Lists.{starts, inside, block, begin, period, around, seen, beyond, ahead, delayed, body, closing, subject_of, closing_of, row_clauses, top, value}
use Rattle.mtl.specs.Sizes.{total, reach_of, use_of, begin_cells, use_cells, extra_cells, closing_cells, row_cells, if_any, begin_longest, use_longest, extra_longest, closing_longest, row_longest}
use Rattle.mtl.specs.Statements.{Sized}

cells-++ : (cs ds : Clauses) → cells_of (cs ++ ds) ≡ cells_of cs + cells_of ds
cells-++ [] ds = omega arith
cells-++ (c ∷ cs) ds = let h = cells-++ cs ds in omega arith

cells_when : (g : Literal) (cs : Clauses) → cells_of (when g cs) ≡ cells_of cs + length cs
cells_when g [] = refl
cells_when g (c ∷ cs) = let h = cells_when g cs in omega arith

cells_each : (f : ℕ → Clauses) (g : ℕ → ℕ) → ((i : ℕ) → cells_of (f i) ≡ g i) → (a n : ℕ) → cells_of (each a n f) ≡ total a n g
cells_each f g h a zero = refl
cells_each f g h a (suc n) = let e = cells-++ (f a) (each (suc a) n f) in let q = h a in let r = cells_each f g h (suc a) n in omega arith

cells_const : (f : ℕ → Clauses) (c : ℕ) → ((i : ℕ) → cells_of (f i) ≡ c) → (a n : ℕ) → cells_of (each a n f) ≡ n * c
cells_const f c h a zero = omega arith
cells_const f c h a (suc n) = let e = cells-++ (f a) (each (suc a) n f) in let q = h a in let r = cells_const f c h (suc a) n in omega arith

length-span : (f : Lits) (i n : ℕ) → length (span f i n) ≡ n
length-span f i zero = refl
length-span f i (suc n) = ap suc (length-span f (suc i) n)

length-down : (f : Lits) (i t : ℕ) → length (down f i t) ≡ suc (min i t)
length-down f i zero = omega arith
length-down f zero (suc t) = omega arith
length-down f (suc i) (suc t) = let h = length-down f i t in omega arith

length-opposite : (gs : List Literal) → length (map opposite gs) ≡ length gs
length-opposite [] = refl
length-opposite (g ∷ gs) = ap suc (length-opposite gs)

cells_any : (x : Literal) (gs : List Literal) → cells_of (any x gs) ≡ 4 * length gs + 2
cells_any x gs = let h = rest gs in omega arith
  where
    rest : (gs : List Literal) → cells_of (map (λ g. x ∷ opposite g ∷ []) gs) ≡ 3 * length gs
    rest [] = refl
    rest (g ∷ gs) = let h = rest gs in omega arith

cells_all : (x : Literal) (gs : List Literal) → cells_of (all x gs) ≡ 4 * length gs + 2
cells_all x gs =
    let h = rest gs in let e = cells-++ (map (λ g. opposite x ∷ g ∷ []) gs) ((x ∷ map opposite gs) ∷ []) in let m = length-opposite gs in omega arith
  where
    rest : (gs : List Literal) → cells_of (map (λ g. opposite x ∷ g ∷ []) gs) ≡ 3 * length gs
    rest [] = refl
    rest (g ∷ gs) = let h = rest gs in omega arith

-- the end of a past row for the loop start l, by whether instant l - 1 - j is there
abbrev end : ℕ → Bool → Lits → ℕ → ℕ → Bool → Clauses
end k v s l j b = cond b (same (s (l - suc j)) (s (k - j % period k l))) (unit (given v (s (k - j % period k l))))

cells_closing : (k t : ℕ) (v : Bool) (s : Lits) → cells_of (closing k t v s) ≡ closing_cells k t
cells_closing k t v s =
    cells_each (λ l. each 0 t (λ j. when (starts l) (end k v s l j (leb (suc j) l)))) (λ l. total 0 t (λ j. cond (leb (suc j) l) 8 3))
    (λ l. cells_each (λ j. when (starts l) (end k v s l j (leb (suc j) l))) (λ j. cond (leb (suc j) l) 8 3) (λ j. cells_when (starts l) (end k v s l j (leb (suc j) l)) ∙ one l j (leb (suc j) l)) 0 t) 0 (suc k)
  where
    one : (l j : ℕ) (b : Bool) → cells_of (end k v s l j b) + length (end k v s l j b) ≡ cond b 8 3
    one l j true = refl
    one l j false = refl

-- one more at the end of a sum
total_more : (g : ℕ → ℕ) (a n : ℕ) → total a (suc n) g ≡ total a n g + g (a + n)
total_more g a zero = let y : a + 0 ≡ a = omega arith in let e = ap g y in omega arith
total_more g a (suc n) = let h = total_more g (suc a) n in let y : suc a + n ≡ a + suc n = omega arith in let e = ap g y in omega arith

pub sum_more : (g : ℕ → ℕ) (n m s x : ℕ) → s ≡ total 0 n g → x ≡ g n → m ≡ suc n → s + x ≡ total 0 m g
sum_more g n m s x p q z = let e = total_more g 0 n in let y : 0 + n ≡ n = omega arith in let f = ap g y in let r = ap (λ m. total 0 m g) z in omega arith

total_none : (a n : ℕ) → total a n (λ _. 0) ≡ 0
total_none a zero = refl
total_none a (suc n) = let h = total_none (suc a) n in omega arith

cells_closing_of : (k : ℕ) (a x : Lits) (o : Option Past) → cells_of (closing_of k a x o) ≡ closing_cells k (reach_of o)
cells_closing_of k a x None = sym (total_none 0 (suc k))
cells_closing_of k a x (Some p) = cells_closing k p.reach p.before (subject_of a x p.subject)

module _ (k : ℕ) where
  cells_around : (R : ℕ → ℕ → Clauses) (c n : ℕ) → ((i m : ℕ) → cells_of (R i m) ≡ c) → ((i m : ℕ) → cells_of (R i m) + length (R i m) ≡ n) → cells_of (around k R) ≡ k * c + suc k * n
  cells_around R c n h g =
      let p = cells_const (λ i. R i (suc i)) c (λ i. h i (suc i)) 0 k in
      let q = cells_const (λ l. when (starts l) (R k l)) n (λ l. cells_when (starts l) (R k l) ∙ g k l) 0 (suc k) in
      let e = cells-++ (each 0 k (λ i. R i (suc i))) (each 0 (suc k) (λ l. when (starts l) (R k l))) in e ∙ ap (λ a. a + cells_of (each 0 (suc k) (λ l. when (starts l) (R k l)))) p ∙ ap (λ a. k * c + a) q

  cells_seen : (e b : Lits) → cells_of (seen k e b) ≡ 10 + k * 15
  cells_seen e b =
      let p = cells_const (λ i. upto (e (suc i)) (e i) (inside k (suc i)) (b (suc i))) 15 (λ i. refl) 0 k in
      let q = cells-++ (both (e 0) (inside k 0) (b 0)) (each 0 k (λ i. upto (e (suc i)) (e i) (inside k (suc i)) (b (suc i)))) in omega arith

  cells_beyond : (t : ℕ) (m a : Lits) → cells_of (beyond k t m a) ≡ t * (suc k * 8)
  cells_beyond t m a =
      cells_const (λ j. each 0 (suc k) (λ l. when (starts l) (same (m j) (a (l + j % period k l))))) (suc k * 8)
      (λ j. cells_const (λ l. when (starts l) (same (m j) (a (l + j % period k l)))) 8 (λ l. refl) 0 (suc k)) 0 t

  join : (cs ds : Clauses) (m n : ℕ) → cells_of cs ≡ m → cells_of ds ≡ n → cells_of (cs ++ ds) ≡ m + n
  join cs ds m n p q = let e = cells-++ cs ds in omega arith

  -- until and release: the shape all round, E, and the clause at the end
  cells_ever : (R : ℕ → ℕ → Clauses) → ((i m : ℕ) → cells_of (R i m) ≡ 15) → ((i m : ℕ) → cells_of (R i m) + length (R i m) ≡ 19) → (e b : Lits) (p q : Literal) → cells_of (around k R ++ seen k e b ++ ((p ∷ q ∷ []) ∷ [])) ≡ k * 15 + suc k * 19 + (10 + k * 15 + 3)
  cells_ever R h g e b p q =
      let r = cells_around R 15 19 h g in let s = cells_seen e b in
      let u = cells-++ (around k R) (seen k e b) in let v = cells-++ (around k R ++ seen k e b) ((p ∷ q ∷ []) ∷ []) in omega arith

  cells_delayed : (t : ℕ) (u : Bool) (x a : Lits) → cells_of (delayed k t u x a) ≡ use_cells k Same (Delayed t)
  cells_delayed t u x a = cells_each (λ i. cond (leb t i) (same (x i) (a (i - t))) (unit (given u (x i)))) (λ i. cond (leb t i) 6 2) (λ i. one i (leb t i)) 0 (suc k)
    where
      one : (i : ℕ) (b : Bool) → cells_of (cond b (same (x i) (a (i - t))) (unit (given u (x i)))) ≡ cond b 6 2
      one i true = refl
      one i false = refl

  only : (c m : ℕ) → c ≡ m → c ≡ m + 0
  only c m p = omega arith

  body-size : (a b x e : Lits) (r : Row) → cells_of (body k a b x e r) ≡ use_cells k (operator_of r).shape (use_of r) + extra_cells k (distance r) (operator_of r).extra
  body-size a b x e (Signal m) = omega arith
  body-size a b x e (Not m) = only _ _ (cells_const (λ i. same (x i) (opposite (a i))) 6 (λ i. refl) 0 (suc k))
  body-size a b x e (And m n) = only _ _ (cells_const (λ i. both (x i) (a i) (b i)) 10 (λ i. refl) 0 (suc k))
  body-size a b x e (Or m n) = only _ _ (cells_const (λ i. either (x i) (a i) (b i)) 10 (λ i. refl) 0 (suc k))
  body-size a b x e (Next m) = only _ _ (cells_around (λ i n. same (x i) (a n)) 6 8 (λ i m. refl) (λ i m. refl))
  body-size a b x e (Until m n) = cells_ever (λ i j. upto (x i) (b i) (a i) (x j)) (λ i m. refl) (λ i m. refl) e b (opposite (x k)) (e k)
  body-size a b x e (Release m n) = cells_ever (λ i j. hold (x i) (b i) (a i) (x j)) (λ i m. refl) (λ i m. refl) e (λ i. opposite (b i)) (x k) (e k)
  body-size a b x e (After m t) =
      join (each 0 (suc k) (λ i. same (x i) (ahead k a e (i + t)))) (beyond k t e a) (suc k * 6) (t * (suc k * 8)) (cells_const (λ i. same (x i) (ahead k a e (i + t))) 6 (λ i. refl) 0 (suc k)) (cells_beyond t e a)
  body-size a b x e (Within m t) =
      join (each 0 (suc k) (λ i. any (x i) (span (ahead k a e) i (suc t)))) (beyond k t e a) (suc k * (4 * t + 6)) (t * (suc k * 8))
      (cells_const (λ i. any (x i) (span (ahead k a e) i (suc t))) (4 * t + 6) (λ i. let p = cells_any (x i) (span (ahead k a e) i (suc t)) in let q = length-span (ahead k a e) i (suc t) in omega arith) 0 (suc k)) (cells_beyond t e a)
  body-size a b x e (Throughout m t) =
      join (each 0 (suc k) (λ i. all (x i) (span (ahead k a e) i (suc t)))) (beyond k t e a) (suc k * (4 * t + 6)) (t * (suc k * 8))
      (cells_const (λ i. all (x i) (span (ahead k a e) i (suc t))) (4 * t + 6) (λ i. let p = cells_all (x i) (span (ahead k a e) i (suc t)) in let q = length-span (ahead k a e) i (suc t) in omega arith) 0 (suc k)) (cells_beyond t e a)
  body-size a b x e (Previous m) = only _ _ (cells_delayed 1 false x a)
  body-size a b x e (WeakPrevious m) = only _ _ (cells_delayed 1 true x a)
  body-size a b x e (Since m n) =
      only _ _ (join (same (x 0) (b 0)) (each 0 k (λ i. upto (x (suc i)) (b (suc i)) (a (suc i)) (x i))) 6 (k * 15) refl (cells_const (λ i. upto (x (suc i)) (b (suc i)) (a (suc i)) (x i)) 15 (λ i. refl) 0 k))
  body-size a b x e (Trigger m n) =
      only _ _ (join (same (x 0) (b 0)) (each 0 k (λ i. hold (x (suc i)) (b (suc i)) (a (suc i)) (x i))) 6 (k * 15) refl (cells_const (λ i. hold (x (suc i)) (b (suc i)) (a (suc i)) (x i)) 15 (λ i. refl) 0 k))
  body-size a b x e (Ago m t) = only _ _ (cells_delayed t false x a)
  body-size a b x e (Lately m t) =
      only _ _ (cells_each (λ i. any (x i) (down a i t)) (λ i. 4 * min i t + 6) (λ i. let p = cells_any (x i) (down a i t) in let q = length-down a i t in omega arith) 0 (suc k))
  body-size a b x e (Steadily m t) =
      only _ _ (cells_each (λ i. all (x i) (down a i t)) (λ i. 4 * min i t + 6) (λ i. let p = cells_all (x i) (down a i t) in let q = length-down a i t in omega arith) 0 (suc k))

  row_size : (a b x e : Lits) (r : Row) → cells_of (row_clauses k a b x e r) ≡ row_cells k r
  row_size a b x e r = join (body k a b x e r) (closing_of k a x (past r)) _ _ (body-size a b x e r) (cells_closing_of k a x (past r))

  begin-size : cells_of (begin k) ≡ begin_cells k
  begin-size =
      let one = length-span starts 0 (suc k) in
      join ((span starts 0 (suc k) ∷ []) ++ each 0 k (λ i. (opposite (inside k i) ∷ opposite (starts (suc i)) ∷ []) ∷ []) ++ same (inside k 0) (starts 0)) (each 0 k (λ i. either (inside k (suc i)) (inside k i) (starts (suc i)))) (k + 2 + k * 3 + 6) (k * 10)
      (join ((span starts 0 (suc k) ∷ []) ++ each 0 k (λ i. (opposite (inside k i) ∷ opposite (starts (suc i)) ∷ []) ∷ [])) (same (inside k 0) (starts 0)) (k + 2 + k * 3) 6
      (join (span starts 0 (suc k) ∷ []) (each 0 k (λ i. (opposite (inside k i) ∷ opposite (starts (suc i)) ∷ []) ∷ [])) (k + 2) (k * 3) (omega arith) (cells_const (λ i. (opposite (inside k i) ∷ opposite (starts (suc i)) ∷ []) ∷ []) 3 (λ i. refl) 0 k))
      refl)
      (cells_const (λ i. either (inside k (suc i)) (inside k i) (starts (suc i))) 10 (λ i. refl) 0 k)

-- Longest clauses.
longest-++ : (cs ds : Clauses) → longest_of (cs ++ ds) ≡ max (longest_of cs) (longest_of ds)
longest-++ [] ds = omega arith
longest-++ (c ∷ cs) ds = let h = longest-++ cs ds in omega arith

if_any_le : (n c : ℕ) → if_any n c ≤ c
if_any_le zero c = omega arith
if_any_le (suc n) c = omega arith

longest_const : (f : ℕ → Clauses) (c : ℕ) → ((i : ℕ) → longest_of (f i) ≡ c) → (a n : ℕ) → longest_of (each a n f) ≡ if_any n c
longest_const f c h a zero = refl
longest_const f c h a (suc n) =
    let e = longest-++ (f a) (each (suc a) n f) in let q = h a in let r = longest_const f c h (suc a) n in let b = if_any_le n c in omega arith

-- the last is the longest, or the first
longest_last : (f : ℕ → Clauses) (g : ℕ → ℕ) → ((i : ℕ) → longest_of (f i) ≡ g i) → ((i j : ℕ) → i ≤ j → g i ≤ g j) → (a n : ℕ) → longest_of (each a (suc n) f) ≡ g (a + n)
longest_last f g h m a zero = let e = longest-++ (f a) [] in let q = h a in let z : a + 0 ≡ a = omega arith in let y = ap g z in omega arith
longest_last f g h m a (suc n) =
    let e = longest-++ (f a) (each (suc a) (suc n) f) in let q = h a in let r = longest_last f g h m (suc a) n in
    let z : suc a + n ≡ a + suc n = omega arith in let y = ap g z in let b = m a (suc a + n) (omega arith) in omega arith

longest_first : (f : ℕ → Clauses) (g : ℕ → ℕ) → ((i : ℕ) → longest_of (f i) ≡ g i) → ((i j : ℕ) → i ≤ j → g j ≤ g i) → (a n : ℕ) → longest_of (each a (suc n) f) ≡ g a
longest_first f g h m a n = let e = longest-++ (f a) (each (suc a) n f) in let q = h a in let b = rest (suc a) n (omega arith) in omega arith
  where
    rest : (c n : ℕ) → a ≤ c → longest_of (each c n f) ≤ g a
    rest c zero l = omega arith
    rest c (suc n) l = let e = longest-++ (f c) (each (suc c) n f) in let q = h c in let b = m a c l in let r = rest (suc c) n (omega arith) in omega arith

longest_any : (x : Literal) (gs : List Literal) → longest_of (any x gs) ≡ suc (length gs)
longest_any x gs = let h = rest gs in omega arith
  where
    rest : (gs : List Literal) → longest_of (map (λ g. x ∷ opposite g ∷ []) gs) ≤ suc (length gs)
    rest [] = omega arith
    rest (g ∷ gs) = let h = rest gs in omega arith

longest_all : (x : Literal) (gs : List Literal) → longest_of (all x gs) ≡ suc (length gs)
longest_all x gs = let h = rest gs in let e = longest-++ (map (λ g. opposite x ∷ g ∷ []) gs) ((x ∷ map opposite gs) ∷ []) in let m = length-opposite gs in omega arith
  where
    rest : (gs : List Literal) → longest_of (map (λ g. opposite x ∷ g ∷ []) gs) ≤ suc (length gs)
    rest [] = omega arith
    rest (g ∷ gs) = let h = rest gs in omega arith

-- what is longer from some instant on is longest at the last
late : (c d t i j : ℕ) → d ≤ c → i ≤ j → cond (leb t i) c d ≤ cond (leb t j) c d
late c d t i j l h = grind (arith, nat_tests)

some_late : (c d k : ℕ) → d ≤ c → cond (leb 1 k) c d ≡ max d (if_any k c)
some_late c d zero l = omega arith
some_late c d (suc k) l = rw (le-leb 1 (suc k) (omega arith)) (omega arith)

module _ (k : ℕ) where
  longest_join : (cs ds : Clauses) (m n : ℕ) → longest_of cs ≡ m → longest_of ds ≡ n → longest_of (cs ++ ds) ≡ max m n
  longest_join cs ds m n p q = let e = longest-++ cs ds in omega arith

  longest_alone : (c m : ℕ) → c ≡ m → c ≡ max m 0
  longest_alone c m p = omega arith

  longest_around : (R : ℕ → ℕ → Clauses) (c : ℕ) → ((i m : ℕ) → longest_of (R i m) ≡ c) → ((i m : ℕ) → longest_of (when (starts m) (R i m)) ≡ suc c) → longest_of (around k R) ≡ suc c
  longest_around R c h g =
      let p = longest_const (λ i. R i (suc i)) c (λ i. h i (suc i)) 0 k in
      let q = longest_const (λ l. when (starts l) (R k l)) (suc c) (λ l. g k l) 0 (suc k) in
      let e = longest-++ (each 0 k (λ i. R i (suc i))) (each 0 (suc k) (λ l. when (starts l) (R k l))) in let b = if_any_le k c in omega arith

  longest_seen : (e b : Lits) → longest_of (seen k e b) ≡ 3
  longest_seen e b =
      let p = longest_const (λ i. upto (e (suc i)) (e i) (inside k (suc i)) (b (suc i))) 3 (λ i. refl) 0 k in
      let q = longest-++ (both (e 0) (inside k 0) (b 0)) (each 0 k (λ i. upto (e (suc i)) (e i) (inside k (suc i)) (b (suc i)))) in let b = if_any_le k 3 in omega arith

  longest_beyond : (t : ℕ) (m a : Lits) → longest_of (beyond k t m a) ≡ if_any t 3
  longest_beyond t m a =
      longest_const (λ j. each 0 (suc k) (λ l. when (starts l) (same (m j) (a (l + j % period k l))))) 3
      (λ j. longest_const (λ l. when (starts l) (same (m j) (a (l + j % period k l)))) 3 (λ l. refl) 0 (suc k)) 0 t

  longest_ever : (R : ℕ → ℕ → Clauses) → ((i m : ℕ) → longest_of (R i m) ≡ 3) → ((i m : ℕ) → longest_of (when (starts m) (R i m)) ≡ 4) → (e b : Lits) (p q : Literal) → longest_of (around k R ++ seen k e b ++ ((p ∷ q ∷ []) ∷ [])) ≡ 4
  longest_ever R h g e b p q =
      longest_join (around k R ++ seen k e b) ((p ∷ q ∷ []) ∷ []) 4 2 (longest_join (around k R) (seen k e b) 4 3 (longest_around R 3 h g) (longest_seen e b)) refl

  longest_delayed : (t : ℕ) (u : Bool) (x a : Lits) → longest_of (delayed k t u x a) ≡ cond (leb t k) 2 1
  longest_delayed t u x a =
      let z : 0 + k ≡ k = omega arith in
      longest_last (λ i. cond (leb t i) (same (x i) (a (i - t))) (unit (given u (x i)))) (λ i. cond (leb t i) 2 1) (λ i. one i (leb t i)) (λ i j l. late 2 1 t i j (omega arith) l) 0 k
      ∙ ap (λ i. cond (leb t i) 2 1) z
    where
      one : (i : ℕ) (b : Bool) → longest_of (cond b (same (x i) (a (i - t))) (unit (given u (x i)))) ≡ cond b 2 1
      one i true = refl
      one i false = refl

  longest_onward : (f : ℕ → Clauses) (x y : Literal) → ((i : ℕ) → longest_of (f i) ≡ 3) → longest_of (same x y ++ each 0 k f) ≡ max 2 (if_any k 3)
  longest_onward f x y h = longest_join (same x y) (each 0 k f) 2 (if_any k 3) refl (longest_const f 3 h 0 k)

  longest_down : (t : ℕ) (f : ℕ → Clauses) → ((i : ℕ) → longest_of (f i) ≡ min i t + 2) → longest_of (each 0 (suc k) f) ≡ min k t + 2
  longest_down t f h = let e = longest_last f (λ i. min i t + 2) h (λ i j l. omega arith) 0 k in omega arith

  longest_closing : (t : ℕ) (v : Bool) (s : Lits) → longest_of (closing k t v s) ≡ closing_longest k t
  longest_closing zero v s = longest_const (λ l. []) 0 (λ l. refl) 0 (suc k)
  longest_closing (suc t) v s =
      let z : 0 + k ≡ k = omega arith in
      longest_last (λ l. each 0 (suc t) (λ j. when (starts l) (end k v s l j (leb (suc j) l)))) (λ l. cond (leb 1 l) 3 2)
      (λ l. longest_first (λ j. when (starts l) (end k v s l j (leb (suc j) l))) (λ j. cond (leb (suc j) l) 3 2) (λ j. one l j (leb (suc j) l)) (λ i j c. early l i j c) 0 t) (λ i j c. late 3 2 1 i j (omega arith) c) 0 k
      ∙ ap (λ l. cond (leb 1 l) 3 2) z ∙ some_late 3 2 k (omega arith)
    where
      one : (l j : ℕ) (b : Bool) → longest_of (when (starts l) (end k v s l j b)) ≡ cond b 3 2
      one l j true = refl
      one l j false = refl

      early : (l i j : ℕ) → i ≤ j → cond (leb (suc j) l) 3 2 ≤ cond (leb (suc i) l) 3 2
      early l i j h = grind (arith, nat_tests)

  longest_closing_of : (a x : Lits) (o : Option Past) → longest_of (closing_of k a x o) ≡ closing_longest k (reach_of o)
  longest_closing_of a x None = refl
  longest_closing_of a x (Some p) = longest_closing p.reach p.before (subject_of a x p.subject)

  body_longest : (a b x e : Lits) (r : Row) → longest_of (body k a b x e r) ≡ max (use_longest k (operator_of r).shape (use_of r)) (extra_longest (distance r) (operator_of r).extra)
  body_longest a b x e (Signal m) = refl
  body_longest a b x e (Not m) = longest_const (λ i. same (x i) (opposite (a i))) 2 (λ i. refl) 0 (suc k)
  body_longest a b x e (And m n) = longest_const (λ i. both (x i) (a i) (b i)) 3 (λ i. refl) 0 (suc k)
  body_longest a b x e (Or m n) = longest_const (λ i. either (x i) (a i) (b i)) 3 (λ i. refl) 0 (suc k)
  body_longest a b x e (Next m) = longest_around (λ i n. same (x i) (a n)) 2 (λ i m. refl) (λ i m. refl)
  body_longest a b x e (Until m n) = longest_ever (λ i j. upto (x i) (b i) (a i) (x j)) (λ i m. refl) (λ i m. refl) e b (opposite (x k)) (e k)
  body_longest a b x e (Release m n) = longest_ever (λ i j. hold (x i) (b i) (a i) (x j)) (λ i m. refl) (λ i m. refl) e (λ i. opposite (b i)) (x k) (e k)
  body_longest a b x e (After m t) =
      longest_join (each 0 (suc k) (λ i. same (x i) (ahead k a e (i + t)))) (beyond k t e a) 2 (if_any t 3) (longest_const (λ i. same (x i) (ahead k a e (i + t))) 2 (λ i. refl) 0 (suc k)) (longest_beyond t e a)
  body_longest a b x e (Within m t) =
      longest_join (each 0 (suc k) (λ i. any (x i) (span (ahead k a e) i (suc t)))) (beyond k t e a) (t + 2) (if_any t 3)
      (longest_const (λ i. any (x i) (span (ahead k a e) i (suc t))) (t + 2) (λ i. let p = longest_any (x i) (span (ahead k a e) i (suc t)) in let q = length-span (ahead k a e) i (suc t) in omega arith) 0 (suc k)) (longest_beyond t e a)
  body_longest a b x e (Throughout m t) =
      longest_join (each 0 (suc k) (λ i. all (x i) (span (ahead k a e) i (suc t)))) (beyond k t e a) (t + 2) (if_any t 3)
      (longest_const (λ i. all (x i) (span (ahead k a e) i (suc t))) (t + 2) (λ i. let p = longest_all (x i) (span (ahead k a e) i (suc t)) in let q = length-span (ahead k a e) i (suc t) in omega arith) 0 (suc k)) (longest_beyond t e a)
  body_longest a b x e (Previous m) = longest_alone _ _ (longest_delayed 1 false x a)
  body_longest a b x e (WeakPrevious m) = longest_alone _ _ (longest_delayed 1 true x a)
  body_longest a b x e (Since m n) = longest_alone _ _ (longest_onward (λ i. upto (x (suc i)) (b (suc i)) (a (suc i)) (x i)) (x 0) (b 0) (λ i. refl))
  body_longest a b x e (Trigger m n) = longest_alone _ _ (longest_onward (λ i. hold (x (suc i)) (b (suc i)) (a (suc i)) (x i)) (x 0) (b 0) (λ i. refl))
  body_longest a b x e (Ago m t) = longest_alone _ _ (longest_delayed t false x a)
  body_longest a b x e (Lately m t) = longest_alone _ _ (longest_down t (λ i. any (x i) (down a i t)) (λ i. let p = longest_any (x i) (down a i t) in let q = length-down a i t in omega arith))
  body_longest a b x e (Steadily m t) = longest_alone _ _ (longest_down t (λ i. all (x i) (down a i t)) (λ i. let p = longest_all (x i) (down a i t) in let q = length-down a i t in omega arith))

  row_longest_is : (a b x e : Lits) (r : Row) → longest_of (row_clauses k a b x e r) ≡ row_longest k r
  row_longest_is a b x e r = longest_join (body k a b x e r) (closing_of k a x (past r)) _ _ (body_longest a b x e r) (longest_closing_of a x (past r))

  begin_longest_is : longest_of (begin k) ≡ begin_longest k
  begin_longest_is =
      let first = span starts 0 (suc k) ∷ [] in
      let apart = each 0 k (λ i. (opposite (inside k i) ∷ opposite (starts (suc i)) ∷ []) ∷ []) in
      let last = each 0 k (λ i. either (inside k (suc i)) (inside k i) (starts (suc i))) in
      let one = length-span starts 0 (suc k) in
      let p = longest_const (λ i. (opposite (inside k i) ∷ opposite (starts (suc i)) ∷ []) ∷ []) 2 (λ i. refl) 0 k in
      let q = longest_const (λ i. either (inside k (suc i)) (inside k i) (starts (suc i))) 3 (λ i. refl) 0 k in
      let u = longest-++ first apart in let v = longest-++ (first ++ apart) (same (inside k 0) (starts 0)) in
      let w = longest-++ (first ++ apart ++ same (inside k 0) (starts 0)) last in let b = if_any_le k 2 in omega arith

pub sized : Sized
sized =
    record {
      begins = begin-size;
      row_added = λ k rows r. let rs = reverse rows in row_size k (value k rs (first r)) (value k rs (second r)) (block (top k rs)) (block (top k rs + suc k)) r;
      begins_longest = begin_longest_is;
      row_added_longest = λ k rows r. let rs = reverse rows in row_longest_is k (value k rs (first r)) (value k rs (second r)) (block (top k rs)) (block (top k rs + suc k)) r;
    }
