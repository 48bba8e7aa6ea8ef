-- Areas laid block by block.
use Rattle.std.proofs.Common.{◌≡◌, ℕ, suc, ◌+◌, ◌-◌, ◌<◌, ◌≤◌, Bool, true, eqb, List, [], ◌∷◌, reverse, length, get_or, Decides, sym, ap, ◌∙◌, arith}
use Rattle.std.proofs.lemmas.Bool.Decides.{Decides-at, Decides-like}
use Rattle.std.specs.Int.{from_bool}
use Rattle.mtl.specs.declared.row.Row.{Row}
use Rattle.mtl.specs.declared.row.Row.TheVariants.{Signal, Not, And, Or, Next, Until, Release, After, Within, Throughout, Previous, WeakPrevious, Since, Trigger, Ago, Lately, Steadily}
use Rattle.mtl.specs.declared.operator.Extra.{Extra}
use Rattle.mtl.specs.declared.operator.Extra.TheVariants.{Nothing, Seen, Ahead}
use Rattle.mtl.specs.declared.operator.Shape.{Shape}
use Rattle.mtl.specs.Formula.{Course, Within as WithinOf}
use Rattle.mtl.specs.Rows.{first, second, distance, operator_of, extra_count, extra}
use Rattle.mtl.specs.Lists.{top}
use Rattle.mtl.specs.Tables.{lawful}
use Rattle.mtl.proofs.Places.{top_at, small_rows}
use Rattle.mtl.proofs.Tables.{top_least}
use Rattle.evaluate.specs.Bits.{bit, At, Round}
use Rattle.evaluate.specs.Lines.{line, Ready}
use Rattle.evaluate.specs.Truths.{row_at, older}
use Rattle.evaluate.proofs.Cells.{bit_of}
use Rattle.evaluate.proofs.Tables.{older_more, older-down}
use Rattle.witness.specs.Areas.{SameBelow, Tell}
use Rattle.witness.specs.Blocks.{sought, SeenUpto, ExtraTold, Block, Laid}

-- the operand that the extra variables read is among the first n rows
abbrev pub Reads : ℕ → ℕ → ℕ → Extra → Type 0
Reads n a b Nothing = Unit {0}
Reads n a b Seen = b < n
Reads n a b Ahead = a < n

pub reads : (n : ℕ) (r : Row) → Ready n r → Reads n (first r) (second r) (operator_of r).extra
reads n (Signal a) o = tt
reads n (Not a) o = tt
reads n (And a b) o = tt
reads n (Or a b) o = tt
reads n (Next a) o = tt
reads n (Until a b) o = o.0.1.0
reads n (Release a b) o = o.0.1.0
reads n (After a t) o = o.0.0
reads n (Within a t) o = o.0.0
reads n (Throughout a t) o = o.0.0
reads n (Previous a) o = tt
reads n (WeakPrevious a) o = tt
reads n (Since a b) o = tt
reads n (Trigger a b) o = tt
reads n (Ago a t) o = tt
reads n (Lately a t) o = tt
reads n (Steadily a t) o = tt

-- a byte that is written for a truth tells it
pub byte_tells : (bs : List ℕ) (i j : ℕ) (v : Bool) (P : Type 0) → j ≡ i → get_or bs i 0 ≡ from_bool v → Decides v P → Decides (bit bs j) P
byte_tells bs i j v P z e d = Decides-at (bit bs j) v (ap (bit bs) z ∙ ap (λ b. eqb b 1) e ∙ bit_of v) d

-- what is met from the loop start on, up to i
pub seen_tells : (k l i : ℕ) (s : Bool) (b : List ℕ) (v : Bool) → Decides v ((l ≤ i) × WithinOf (Round k l s b) (i - l) l) → Decides v (SeenUpto k l s b i)
seen_tells k l i s b v d = Decides-like v (λ p. (p.1.0, p.1.1, omega (arith, p.0, p.1.2), p.1.3)) (λ q. (omega (arith, q.1, q.2), (q.0, q.1, omega (arith, q.1, q.2), q.3))) d

-- ys has from byte n on what xs has from byte a on
module _ (xs ys : List ℕ) (a n : ℕ) where
  abbrev pub Moved : ℕ → Type 0
  Moved count = (j : ℕ) → j < count → get_or ys (n + j) 0 ≡ get_or xs (a + j) 0

  pub tell_moved : (count : ℕ) (S : Course) → Moved count → Tell xs a count S → Tell ys n count S
  tell_moved count S m t i c = Decides-at (bit ys (n + i)) (bit xs (a + i)) (ap (λ z. eqb z 1) (m i c)) (t i c)

pub extra_moved : (xs ys : List ℕ) (a n k l : ℕ) (v w : List ℕ) (t : ℕ) (s : Shape) (e : Extra) → Moved xs ys a n (extra_count k t e) → ExtraTold k l xs a v w t s e → ExtraTold k l ys n v w t s e
extra_moved xs ys a n k l v w t s Nothing m x = tt
extra_moved xs ys a n k l v w t s Seen m x = tell_moved xs ys a n (k + 1) (SeenUpto k l (sought s) w) (λ j c. m j (omega arith)) x
extra_moved xs ys a n k l v w t s Ahead m x = tell_moved xs ys a n t (λ i. Round k l true v (k + 1 + i)) m x

pub block_moved : (xs ys : List ℕ) (a n k l : ℕ) (work : List ℕ) (m : ℕ) (r : Row) → Moved xs ys a n (suc k + extra k r) → Block k l work xs a m r → Block k l work ys n m r
block_moved xs ys a n k l work m r f b = (
  tell_moved xs ys a n (k + 1) (At true (line k work m)) (λ j c. f j (omega arith)) b.0,
  extra_moved xs ys (a + (k + 1)) (n + (k + 1)) k l (line k work (first r)) (line k work (second r)) (distance r) (operator_of r).shape (operator_of r).extra
      (λ j c.
      let y : n + (k + 1) + j ≡ n + (k + 1 + j) = omega arith in
      let x : a + (k + 1) + j ≡ a + (k + 1 + j) = omega arith in
      ap (λ i. get_or ys i 0) y ∙ f (k + 1 + j) (omega arith) ∙ sym (ap (λ i. get_or xs i 0) x))
      b.1,
)

-- what is laid stays where the bytes below the top stay
pub laid_like : (xs ys : List ℕ) (k l : ℕ) (work : List ℕ) (rs : List Row) → SameBelow (top k rs - 1) ys xs → Laid k l work xs rs → Laid k l work ys rs
laid_like xs ys k l work [] s h = (
  tell_moved xs ys 0 0 (k + 1) (λ i. l ≡ i) (λ j c. s (0 + j) (omega arith)) h.0,
  tell_moved xs ys (k + 1) (k + 1) (k + 1) (λ i. l ≤ i) (λ j c. s (k + 1 + j) (omega arith)) h.1,
)
laid_like xs ys k l work (r ∷ rs) s h =
    let t = top_least k rs in (
      laid_like xs ys k l work rs (λ j c. s j (omega arith)) h.0,
      block_moved xs ys (top k rs - 1) (top k rs - 1) k l work (length rs) r (λ j c. s (top k rs - 1 + j) (omega arith)) h.1,
    )

pub top_more : (k : ℕ) (rows : List Row) (n : ℕ) → n < length rows → top k (older rows (n + 1)) ≡ top k (older rows n) + (suc k + extra k (row_at rows n))
top_more k rows n h = ap (top k) (older_more rows n h)

pub top_to : (k : ℕ) (rows : List Row) (n : ℕ) → n ≤ length rows → top k (older rows n) ≤ top k (reverse rows)
top_to k rows n h = older-down (λ rs _. top k rs ≤ top k (reverse rows)) rows (λ m c q. omega arith) (length rows - n) n (omega arith) (omega arith)

pub top_small : (k : ℕ) (rows : List Row) → k ≤ 31 → lawful rows ≡ true → length rows ≤ 32 → top k (reverse rows) < 9000
top_small k rows h law few = omega (arith, top_at k rows, small_rows k rows law few)
