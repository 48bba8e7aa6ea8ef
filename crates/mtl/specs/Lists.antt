-- The variables of a job, and the clause lists of begin, of each row and of a requirement.
use Rattle.std.specs.Prelude.{ℕ, suc, ◌+◌, ◌-◌, ◌*◌, ◌%◌, Bool, true, false, cond, List, [], ◌∷◌, ◌++◌, length, Some, None, Option, ◌==◌, nat_le}
use Rattle.cnf.specs.Clauses.{Clauses, asserted, opposite}
use Rattle.mtl.specs.declared.row.Row.{Row}
use Rattle.mtl.specs.declared.row.Row.TheVariants.{Signal, Not, And, Or, Next, Until, Release, After, Within, Throughout, Previous, WeakPrevious, Since, Trigger, Ago, Lately, Steadily}
use Rattle.mtl.specs.Shapes.{same, both, either, upto, hold, any, all, given, unit, when, each, Lits, span, down}
use Rattle.mtl.specs.Rows.{Subject, operand, itself, Past, past, first, second, extra}

-- L(i) says l = i, and N(i) says l ≤ i, of the loop start l
abbrev pub starts : Lits
starts i = asserted (suc i)

abbrev pub inside : ℕ → Lits
inside k i = asserted (k + 2 + i)

-- the variables from n on
abbrev pub block : ℕ → Lits
block n i = asserted (n + i)

abbrev pub begin : ℕ → Clauses
begin k =
    (span starts 0 (suc k) ∷ [])
    ++ each 0 k (λ i. (opposite (inside k i) ∷ opposite (starts (suc i)) ∷ []) ∷ [])
    ++ same (inside k 0) (starts 0)
    ++ each 0 k (λ i. either (inside k (suc i)) (inside k i) (starts (suc i)))

-- the length of the loop
abbrev pub period : ℕ → ℕ → ℕ
period k l = k - l + 1

-- R at each instant below k and the one after it, and at k and the loop start
abbrev pub around : ℕ → (ℕ → ℕ → Clauses) → Clauses
around k R = each 0 k (λ i. R i (suc i)) ++ each 0 (suc k) (λ l. when (starts l) (R k l))

-- E(i): some instant from l to i has b
abbrev pub seen : ℕ → Lits → Lits → Clauses
seen k e b = both (e 0) (inside k 0) (b 0) ++ each 0 k (λ i. upto (e (suc i)) (e i) (inside k (suc i)) (b (suc i)))

-- M(j): a at instant k + 1 + j
abbrev pub beyond : ℕ → ℕ → Lits → Lits → Clauses
beyond k t m a = each 0 t (λ j. each 0 (suc k) (λ l. when (starts l) (same (m j) (a (l + j % period k l)))))

-- a up to k, M above
abbrev pub ahead : ℕ → Lits → Lits → Lits
ahead k a m n = cond (nat_le n k) (a n) (m (n - k - 1))

-- x(i) is a(i - t), or v where there is no such instant
abbrev pub delayed : ℕ → ℕ → Bool → Lits → Lits → Clauses
delayed k t v x a = each 0 (suc k) (λ i. cond (nat_le t i) (same (x i) (a (i - t))) (unit (given v (x i))))

-- the clauses of a row but for its closing ones: a and b are its operands' literals, x its own and e its extra ones
abbrev pub body : ℕ → Lits → Lits → Lits → Lits → Row → Clauses
body k a b x e (Signal n) = []
body k a b x e (Not m) = each 0 (suc k) (λ i. same (x i) (opposite (a i)))
body k a b x e (And m n) = each 0 (suc k) (λ i. both (x i) (a i) (b i))
body k a b x e (Or m n) = each 0 (suc k) (λ i. either (x i) (a i) (b i))
body k a b x e (Next m) = around k (λ i n. same (x i) (a n))
body k a b x e (Until m n) =
    around k (λ i n. upto (x i) (b i) (a i) (x n)) ++ seen k e b ++ ((opposite (x k) ∷ e k ∷ []) ∷ [])
body k a b x e (Release m n) =
    around k (λ i n. hold (x i) (b i) (a i) (x n)) ++ seen k e (λ i. opposite (b i)) ++ ((x k ∷ e k ∷ []) ∷ [])
body k a b x e (After m t) = each 0 (suc k) (λ i. same (x i) (ahead k a e (i + t))) ++ beyond k t e a
body k a b x e (Within m t) = each 0 (suc k) (λ i. any (x i) (span (ahead k a e) i (suc t))) ++ beyond k t e a
body k a b x e (Throughout m t) = each 0 (suc k) (λ i. all (x i) (span (ahead k a e) i (suc t))) ++ beyond k t e a
body k a b x e (Previous m) = delayed k 1 false x a
body k a b x e (WeakPrevious m) = delayed k 1 true x a
body k a b x e (Since m n) = same (x 0) (b 0) ++ each 0 k (λ i. upto (x (suc i)) (b (suc i)) (a (suc i)) (x i))
body k a b x e (Trigger m n) = same (x 0) (b 0) ++ each 0 k (λ i. hold (x (suc i)) (b (suc i)) (a (suc i)) (x i))
body k a b x e (Ago m t) = delayed k t false x a
body k a b x e (Lately m t) = each 0 (suc k) (λ i. any (x i) (down a i t))
body k a b x e (Steadily m t) = each 0 (suc k) (λ i. all (x i) (down a i t))

-- where the loop starts at l, the subject s has at l - 1 - j what it has j mod period instants before the loop's end,
-- or v there if l - 1 - j lies before instant 0
abbrev pub closed_at : ℕ → Lits → Bool → ℕ → ℕ → Clauses
closed_at k s v l j =
    when (starts l)
    (cond (nat_le (suc j) l) (same (s (l - suc j)) (s (k - j % period k l))) (unit (given v (s (k - j % period k l)))))

abbrev pub closing : ℕ → ℕ → Bool → Lits → Clauses
closing k t v s = each 0 (suc k) (λ l. each 0 t (λ j. closed_at k s v l j))

abbrev pub subject_of : {X : Type 0} → X → X → Subject → X
subject_of a x operand = a
subject_of a x itself = x

abbrev pub closing_of : ℕ → Lits → Lits → Option Past → Clauses
closing_of k a x None = []
closing_of k a x (Some p) = closing k p.reach p.before (subject_of a x p.subject)

-- the clauses of a row
abbrev pub row_clauses : ℕ → Lits → Lits → Lits → Lits → Row → Clauses
row_clauses k a b x e r = body k a b x e r ++ closing_of k a x (past r)

-- A table is a list of rows, the newest first: a row's number is the number of rows after it in the list.
-- the first variable after the blocks of the table's rows
abbrev pub top : ℕ → List Row → ℕ
top k [] = 2 * k + 3
top k (r ∷ rs) = top k rs + (suc k + extra k r)

-- where the block of row n starts
abbrev pub start : ℕ → List Row → ℕ → ℕ
start k [] n = 0
start k (r ∷ rs) n = cond (n == length rs) (top k rs) (start k rs n)

-- V of row n
abbrev pub value : ℕ → List Row → ℕ → Lits
value k rs n = block (start k rs n)

-- the clauses of a row that comes after the rows rs
abbrev pub added : ℕ → List Row → Row → Clauses
added k rs r = row_clauses k (value k rs (first r)) (value k rs (second r)) (block (top k rs)) (block (top k rs + suc k)) r

abbrev pub clauses : ℕ → List Row → Clauses
clauses k [] = []
clauses k (r ∷ rs) = clauses k rs ++ added k rs r
