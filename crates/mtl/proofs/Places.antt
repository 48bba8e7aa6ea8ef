-- Where the blocks of a table's rows lie.
use Rattle.std.proofs.Common.{◌≡◌, ℕ, suc, ◌+◌, ◌*◌, ◌<◌, ◌≤◌, max, true, cond, eqb, List, [], ◌∷◌, ◌++◌, reverse, length, length-take, take, sym, refl, ap, ◌∙◌, subst, mul-le-mul_right, arith, take_all}
use lib.Seq.{take-append-le}
use Rattle.std.proofs.lemmas.List.Sums.{sum_by-append, sum_by-cons, sum_by-take-le, sum_by_more_le}
use Rattle.std.proofs.lemmas.List.{reverse-reverse, length-reverse}
use Rattle.std.proofs.lemmas.Bool.{and_parts, cond-false, ne_eqb}
use Rattle.mtl.specs.declared.row.Row.{Row}
use Rattle.mtl.specs.declared.table.Table.{Table}
use Rattle.mtl.specs.declared.row.Row.TheVariants.{Signal}
use Rattle.mtl.specs.declared.operator.Extra.{Extra}
use Rattle.mtl.specs.declared.operator.Extra.TheVariants.{Nothing, Seen, Ahead}
use Rattle.mtl.specs.Rows.{distance, operator_of, extra_count}
use Rattle.mtl.specs.Lists.{top, start}
use Rattle.mtl.specs.Tables.{fits_after, lawful_after, lawful}
use Rattle.mtl.specs.Layout.{rows_of, newest_of, size, sizes, most}
use Rattle.mtl.proofs.Tables.{reverse_cons, fits, newest}

top_back : (k : ℕ) (rs : List Row) → top k rs ≡ 2 * k + 3 + sizes k (reverse rs)
top_back k [] = omega arith
top_back k (r ∷ rs) =
    let h = top_back k rs in
    let e = ap (sizes k) (reverse_cons r rs) ∙ sum_by-append (size k) (reverse rs) (r ∷ []) in omega arith

start_back : (k : ℕ) (rs : List Row) (n : ℕ) → n < length rs → start k rs n ≡ 2 * k + 3 + sizes k (take n (reverse rs))
start_back k [] n c = absurd (omega arith)
start_back k (r ∷ rs) n c =
    let len = length-reverse rs in
    subst (λ l. start k (r ∷ rs) n ≡ 2 * k + 3 + sizes k (take n l)) (sym (reverse_cons r rs))
    (newest (λ b. cond b (top k rs) (start k rs n) ≡ 2 * k + 3 + sizes k (take n (reverse rs ++ r ∷ []))) n (length rs) c
    (λ e. top_back k rs ∙ ap (λ l. 2 * k + 3 + sizes k l) (sym (take-append-le n (reverse rs) (r ∷ []) (omega arith) ∙ take_all n (reverse rs) (omega arith))))
    (λ d. start_back k rs n d ∙ ap (λ l. 2 * k + 3 + sizes k l) (sym (take-append-le n (reverse rs) (r ∷ []) (omega arith)))))

pub top_at : (k : ℕ) (rows : List Row) → top k (reverse rows) ≡ 2 * k + 3 + sizes k rows
top_at k rows = top_back k (reverse rows) ∙ ap (λ l. 2 * k + 3 + sizes k l) (reverse-reverse rows)

pub start_at : (k : ℕ) (rows : List Row) (n : ℕ) → n < length rows → start k (reverse rows) n ≡ 2 * k + 3 + sizes k (take n rows)
start_at k rows n c = start_back k (reverse rows) n (let e = length-reverse rows in omega arith) ∙ ap (λ l. 2 * k + 3 + sizes k (take n l)) (reverse-reverse rows)

-- row n's block starts where the blocks of the rows before it end
pub start_top : (k : ℕ) (rows : List Row) (n : ℕ) → n < length rows → start k (reverse rows) n ≡ top k (reverse (take n rows))
start_top k rows n c = start_at k rows n c ∙ sym (top_at k (take n rows))

none_back : (k : ℕ) (rs : List Row) (n : ℕ) → length rs ≤ n → start k rs n ≡ 0
none_back k [] n c = refl
none_back k (r ∷ rs) n c = cond-false (eqb n (length rs)) (top k rs) (start k rs n) (ne_eqb n (length rs) (λ e. omega arith)) ∙ none_back k rs n (omega arith)

pub none_at : (k : ℕ) (rows : List Row) (n : ℕ) → length rows ≤ n → start k (reverse rows) n ≡ 0
none_at k rows n c = none_back k (reverse rows) n (let e = length-reverse rows in omega arith)

pub few_rows : (t : Table) → length (rows_of t) ≤ 32
few_rows t = omega (arith, length-take t.rows.len t.rows.places, t.rows.few)

small_extra : (k t : ℕ) (e : Extra) → t ≤ 31 → extra_count k t e ≤ max (suc k) 31
small_extra k t Nothing c = omega arith
small_extra k t Seen c = omega arith
small_extra k t Ahead c = omega arith

small_after : (k : ℕ) (before rs : List Row) → lawful_after before rs ≡ true → sizes k rs ≤ length rs * (suc k + max (suc k) 31)
small_after k before [] e = omega arith
small_after k before (r ∷ rs) e =
    let p = and_parts (fits_after before r) (lawful_after (before ++ r ∷ []) rs) e in
    let h = small_after k (before ++ r ∷ []) rs p.1 in
    let s = small_extra k (distance r) (operator_of r).extra (fits before r p.0).near in omega (arith, sum_by-cons (size k) r rs)

pub small_rows : (k : ℕ) (rows : List Row) → lawful rows ≡ true → length rows ≤ 32 → sizes k rows ≤ 32 * (suc k + max (suc k) 31)
small_rows k rows law few = let h = small_after k [] rows law in let m = mul-le-mul_right (suc k + max (suc k) 31) few in omega (arith, m)

-- a table's blocks take no more variables than most
module _ (k : ℕ) (t : Table) where
  pub small_table : sizes k (rows_of t) ≤ 32 * (suc k + max (suc k) 31)
  small_table = small_rows k (rows_of t) t.lawful (few_rows t)

  pub small_top : top k (newest_of t) ≤ most k + 1
  small_top = omega (arith, small_table, top_at k (rows_of t))

  pub small_part : (n : ℕ) → sizes k (take n (rows_of t)) ≤ 32 * (suc k + max (suc k) 31)
  small_part n = omega (arith, small_table, sum_by-take-le (size k) (rows_of t) n)

  pub small_start : (n : ℕ) → n < length (rows_of t) → top k (reverse (take n (rows_of t))) ≤ most k
  small_start n c = omega (arith, small_table, sum_by_more_le (size k) (rows_of t) n (Signal 0) c, top_at k (take n (rows_of t)))
