-- What is read from an area.
use Rattle.std.proofs.Common.{◌≡◌, ℕ, suc, ◌+◌, ◌<◌, ◌≤◌, Bool, true, false, cond, ◌≢◌, List, [], ◌∷◌, reverse, length, take, set, Some, sym, subst, ⊎_elim, arith, get_or-set_other, get_or-set_same}
use Rattle.std.proofs.lemmas.Bool.{cases_order}
use Rattle.mtl.specs.declared.row.Row.{Row}
use Rattle.mtl.specs.Formula.{Word}
use Rattle.mtl.specs.Lists.{top, start}
use Rattle.mtl.specs.Tables.{is_signal, row_of}
use Rattle.mtl.proofs.Places.{top_at, start_at}
use Rattle.evaluate.specs.Letters.{holds, has}
use Rattle.witness.proofs.Laying.{top_more, top_to}

-- a signal's row is there
row_among : (m a : ℕ) (rows : List Row) (n : ℕ) → Some n ≡ row_of m a rows → n < m + length rows
row_among m a [] n e = cc
row_among m a (r ∷ rs) n e = either (is_signal a r) e (row_among (suc m) a rs n)
  where
    either : (b : Bool) → Some n ≡ cond b (Some m) (row_of (suc m) a rs) → (Some n ≡ row_of (suc m) a rs → n < suc m + length rs) → n < m + length (r ∷ rs)
    either true q f = let z : n ≡ m = cc in omega arith
    either false q f = let z = f q in omega arith

pub row_inside : (a : ℕ) (rows : List Row) (n : ℕ) → Some n ≡ row_of 0 a rows → n < length rows
row_inside a rows n e = let z = row_among 0 a rows n e in omega arith

-- the variables of a row lie below the top
pub start-inside : (k : ℕ) (rows : List Row) (n i : ℕ) → n < length rows → i ≤ k → (1 ≤ start k (reverse rows) n + i) × (start k (reverse rows) n + i < top k (reverse rows))
start-inside k rows n i h c =
    let s = start_at k rows n h in
    let t = top_at k (take n rows) in
    let m = top_more k rows n h in
    let u = top_to k rows (n + 1) (omega arith) in
    (omega arith, omega arith)

-- one more letter
pub set_more : (ls : List ℕ) (i x : ℕ) (S : Word) → i < length ls → ((a : ℕ) → a < 32 → holds x a ≡ S i a) → ((j a : ℕ) → j < i → a < 32 → has ls j a ≡ S j a) → (j a : ℕ) → j < i + 1 → a < 32 → has (set ls i x) j a ≡ S j a
set_more ls i x S h new old j a b d = ⊎_elim here (λ g. ⊎_elim there (λ f. absurd (omega arith)) g) (cases_order j i)
  where
    here : j ≡ i → has (set ls i x) j a ≡ S j a
    here e = subst (λ m. has (set ls i x) m a ≡ S m a) (sym e) (rw get_or-set_same (new a d))

    there : j < i → has (set ls i x) j a ≡ S j a
    there f = let ne : j ≢ i = λ e. omega arith in rw get_or-set_other (old j a f d)
