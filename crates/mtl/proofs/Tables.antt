-- What a lawful list of rows says of its rows, one by one.
use Rattle.std.proofs.Common.{◌≡◌, ℕ, suc, ◌+◌, ◌*◌, ◌<◌, ◌≤◌, Bool, true, false, not, ◌&&◌, ◌||◌, eqb, ltb, leb, cond, List, [], ◌∷◌, ◌++◌, reverse, length, Some, None, Option, sym, refl, ap, ◌∙◌, subst, ⊎_elim, append_assoc, append-nil, zero-add, arith}
use Rattle.std.proofs.lemmas.Bool.{cases_order, eq-eqb, ne_eqb, and_parts, false≢true, ltb-true, leb-true, eqb-true, not-true}
use Rattle.std.proofs.lemmas.Bool.Decides.{nat_tests, same_from_decides}
use Rattle.std.proofs.lemmas.List.{reverse-append, reverse-reverse, length-reverse}
use Rattle.mtl.specs.declared.row.Row.{Row}
use Rattle.std.specs.Bool.{Decides}
use Rattle.std.specs.List.{position, position_or_len}
use Rattle.std.specs.Option.{is_some}
use Rattle.mtl.specs.Rows.{operands, distance, signal_of}
use Rattle.mtl.specs.Lists.{top}
use Rattle.mtl.specs.Tables.{all_below, names, is_signal, has_signal, row_of, is_new, fits_after, lawful_after, lawful}

-- every number of the list is below n
abbrev pub Below : ℕ → List ℕ → Type 0
Below n [] = Unit {0}
Below n (m ∷ ms) = (m < n) × Below n ms

pub below : (n : ℕ) (ms : List ℕ) → all_below n ms ≡ true → Below n ms
below n [] e = tt
below n (m ∷ ms) e = let p = and_parts (ltb m n) (all_below n ms) e in (ltb-true m n p.0, below n ms p.1)

-- a table, the newest row first: operands are earlier rows, and no signal has two rows
abbrev pub Ordered : List Row → Type 0
Ordered [] = Unit {0}
Ordered (r ∷ rs) = Ordered rs × Below (length rs) (operands r) × ((a : ℕ) → is_signal a r ≡ true → has_signal a rs ≡ false)

after_push : (before rs : List Row) (r : Row) → lawful_after before (rs ++ r ∷ []) ≡ (lawful_after before rs && fits_after (before ++ rs) r)
after_push before [] r = last (fits_after before r) ∙ ap (λ l. fits_after l r) (sym (append-nil before))
  where
    last : (p : Bool) → (p && true) ≡ p
    last true = refl
    last false = refl
after_push before (x ∷ rs) r =
    ap (λ b. fits_after before x && b) (after_push (before ++ x ∷ []) rs r ∙ ap (λ l. lawful_after (before ++ x ∷ []) rs && fits_after l r) (append_assoc before (x ∷ []) rs))
    ∙ assoc (fits_after before x) (lawful_after (before ++ x ∷ []) rs) (fits_after (before ++ (x ∷ rs)) r)
  where
    assoc : (p q r : Bool) → (p && (q && r)) ≡ ((p && q) && r)
    assoc true q r = refl
    assoc false q r = refl

pub lawful_push : (rs : List Row) (r : Row) → lawful (rs ++ r ∷ []) ≡ (lawful rs && fits_after rs r)
lawful_push rs r = after_push [] rs r

-- the parts of a row's law
pub record Fits (rs : List Row) (r : Row) : Type 0 where
  pub operands : Below (length rs) (operands r)
  pub near : distance r ≤ 31
  pub new : (a : ℕ) → is_signal a r ≡ true → has_signal a rs ≡ false

pub fits : (rs : List Row) (r : Row) → fits_after rs r ≡ true → Fits rs r
fits rs r e =
    let p = and_parts (all_below (length rs) (operands r) && leb (distance r) 31) (is_new rs (signal_of r)) e in
    let q = and_parts (all_below (length rs) (operands r)) (leb (distance r) 31) p.0 in
    record { operands = below (length rs) (operands r) q.0; near = leb-true (distance r) 31 q.1; new = fresh (signal_of r) p.1 }
  where
    fresh : (o : Option ℕ) → is_new rs o ≡ true → (a : ℕ) → names a o ≡ true → has_signal a rs ≡ false
    fresh None e a n = absurd (false≢true n)
    fresh (Some b) e a n = let c = eqb-true a b n in subst (λ d. has_signal d rs ≡ false) (sym c) (not-true (has_signal b rs) (and_parts (leb b 31) (not (has_signal b rs)) e).1)

has_signal-++ : (a : ℕ) (rs ss : List Row) → has_signal a (rs ++ ss) ≡ (has_signal a rs || has_signal a ss)
has_signal-++ a [] ss = refl
has_signal-++ a (r ∷ rs) ss = ap (λ b. is_signal a r || b) (has_signal-++ a rs ss) ∙ assoc (is_signal a r) (has_signal a rs) (has_signal a ss)
  where
    assoc : (p q r : Bool) → (p || (q || r)) ≡ ((p || q) || r)
    assoc true q r = refl
    assoc false q r = refl

pub reverse_cons : (r : Row) (rs : List Row) → reverse (r ∷ rs) ≡ reverse rs ++ r ∷ []
reverse_cons r rs = reverse-append (r ∷ []) rs

pub has_signal-reverse : (a : ℕ) (rs : List Row) → has_signal a (reverse rs) ≡ has_signal a rs
has_signal-reverse a [] = refl
has_signal-reverse a (r ∷ rs) =
    ap (has_signal a) (reverse_cons r rs) ∙ has_signal-++ a (reverse rs) (r ∷ []) ∙ ap (λ b. b || (is_signal a r || false)) (has_signal-reverse a rs)
    ∙ swap (has_signal a rs) (is_signal a r)
  where
    swap : (p q : Bool) → (p || (q || false)) ≡ (q || p)
    swap p q = grind arith

ordered_back : (rs : List Row) → lawful (reverse rs) ≡ true → Ordered rs
ordered_back [] e = tt
ordered_back (r ∷ rs) e =
    let p = and_parts (lawful (reverse rs)) (fits_after (reverse rs) r) (sym (ap lawful (reverse_cons r rs) ∙ lawful_push (reverse rs) r) ∙ e) in
    let h = fits (reverse rs) r p.1 in (
      ordered_back rs p.0,
      subst (λ n. Below n (operands r)) (length-reverse rs) h.operands,
      λ a s. sym (has_signal-reverse a rs) ∙ h.new a s,
    )

pub ordered : (rows : List Row) → lawful rows ≡ true → Ordered (reverse rows)
ordered rows e = ordered_back (reverse rows) (ap lawful (reverse-reverse rows) ∙ e)

-- row n of m + 1 is the newest, or one of the m before it
pub newest : (P : Bool → Type 0) (n m : ℕ) → n < suc m → (n ≡ m → P true) → (n < m → P false) → P (eqb n m)
newest P n m c here there =
    ⊎_elim (λ e. subst P (sym (eq-eqb n m e)) (here e)) (λ g. ⊎_elim (λ b. subst P (sym (ne_eqb n m (λ q. omega arith))) (there b)) (λ b. absurd (omega arith)) g)
    (cases_order n m)

-- a table's top comes after the variables of begin
pub top_least : (k : ℕ) (rs : List Row) → 2 * k + 3 ≤ top k rs
top_least k [] = omega arith
top_least k (r ∷ rs) = let q = top_least k rs in omega arith

found : (n : ℕ) (b : Bool) (i l : ℕ) (o : Option ℕ) → o ≡ cond (ltb i l) (Some (suc n + i)) None → cond b (Some n) o ≡ cond (ltb (cond (not b) (1 + i) 0) (suc l)) (Some (n + cond (not b) (1 + i) 0)) None
found n true i l o e = grind (arith, nat_tests)
found n false i l o e = grind (arith, nat_tests)

row_from : (n a : ℕ) (rs : List Row) → row_of n a rs ≡ cond (ltb (position_or_len (is_signal a) rs) (length rs)) (Some (n + position_or_len (is_signal a) rs)) None
row_from n a [] = refl
row_from n a (r ∷ rs) = found n (is_signal a r) _ _ (row_of (suc n) a rs) (row_from (suc n) a rs)

-- what a search finds is the signal's row
pub row_found : (a : ℕ) (rs : List Row) (o : Option ℕ) → o ≡ position (is_signal a) rs → o ≡ row_of 0 a rs
row_found a rs o e = e ∙ sym (simp zero-add at (row_from 0 a rs))

names_decides : (a : ℕ) (o : Option ℕ) → Decides (names a o) (o ≡ Some a)
names_decides a None = (λ e. absurd (false≢true e), λ e. cc)
names_decides a (Some b) = (λ e. ap Some (sym (eqb-true a b e)), λ e. eq-eqb a b cc)

-- a test whether an option is a's
pub names_is : (a : ℕ) (o : Option ℕ) (b : Bool) → Decides b (o ≡ Some a) → b ≡ names a o
names_is a o b d = same_from_decides b (names a o) d (names_decides a o)

-- a signal has a row where the search finds one
pub has_row : (n a : ℕ) (rs : List Row) → is_some (row_of n a rs) ≡ has_signal a rs
has_row n a [] = refl
has_row n a (r ∷ rs) = either (is_signal a r) (has_row (suc n) a rs)
  where
    either : (b : Bool) → is_some (row_of (suc n) a rs) ≡ has_signal a rs → is_some (cond b (Some n) (row_of (suc n) a rs)) ≡ (b || has_signal a rs)
    either true e = refl
    either false e = e
