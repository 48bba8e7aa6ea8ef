-- Looping runs, their endless words, and what an assignment says of one.
use Rattle.std.specs.Prelude.{◌≡◌, ℕ, suc, ◌+◌, ◌-◌, ◌%◌, ◌<◌, ◌≤◌, Bool, true, cond, ◌↔◌, List, [], ◌∷◌, length, Some, None, Decides, MatchBool, Option, ◌==◌, nat_le}
use Rattle.cnf.specs.Clauses.{Assignment, truth}
use Rattle.mtl.specs.declared.row.Row.{Row}
use Rattle.mtl.specs.declared.row.Row.TheVariants.{Signal, Not, And, Or, Next, Until, Release, After, Within, Throughout, Previous, WeakPrevious, Since, Trigger, Ago, Lately, Steadily}
use Rattle.mtl.specs.declared.operator.Extra.{Extra}
use Rattle.mtl.specs.declared.operator.Extra.TheVariants.{Nothing, Seen, Ahead}
use Rattle.mtl.specs.declared.operator.Shape.{Shape}
use Rattle.mtl.specs.declared.operator.Shape.TheVariants.{Free, Same, Both, Either, Upto, Hold, Any, All}
use Rattle.mtl.specs.Formula.{Formula, signal, negation, conjunction, disjunction, next, until, release, after, within, throughout, previous, weak_previous, since, trigger, ago, lately, steadily, Word, Course, Sat}
use Rattle.mtl.specs.Shapes.{Lits}
use Rattle.mtl.specs.Rows.{Past, past, first, second, distance, operator_of}
use Rattle.mtl.specs.Lists.{starts, inside, block, period, top, subject_of}

-- a run of bound k: the instant at which its loop starts, and the signals that are on at each instant from 0 to k
pub record Run (k : ℕ) : Type 0 where
  pub loop : ℕ
  pub bounded : loop ≤ k
  pub letters : Word

-- the instant from 0 to k whose letter instant i has, where the loop starts at l
abbrev pub lasso : ℕ → ℕ → ℕ → ℕ
lasso k l i = cond (nat_le i k) i (l + (i - l) % period k l)

abbrev pub word : ℕ → ℕ → Word → Word
word k l letters i = letters (lasso k l i)

-- the run's endless word: its letters from 0 to k, and then those from the loop start to k again and again
abbrev pub endless_word : {k : ℕ} → Run k → Word
endless_word {k} run = word k run.loop run.letters

-- a row's formula, over those of the rows that it names
abbrev pub form : (ℕ → Formula) → Row → Formula
form f (Signal a) = signal a
form f (Not a) = negation (f a)
form f (And a b) = conjunction (f a) (f b)
form f (Or a b) = disjunction (f a) (f b)
form f (Next a) = next (f a)
form f (Until a b) = until (f a) (f b)
form f (Release a b) = release (f a) (f b)
form f (After a t) = after (f a) t
form f (Within a t) = within (f a) t
form f (Throughout a t) = throughout (f a) t
form f (Previous a) = previous (f a)
form f (WeakPrevious a) = weak_previous (f a)
form f (Since a b) = since (f a) (f b)
form f (Trigger a b) = trigger (f a) (f b)
form f (Ago a t) = ago (f a) t
form f (Lately a t) = lately (f a) t
form f (Steadily a t) = steadily (f a) t

-- the formula of row n of a table, the newest row first
abbrev pub formula : List Row → ℕ → Formula
formula [] n = signal 0
formula (r ∷ rs) n = cond (n == length rs) (form (λ m. formula rs m) r) (formula rs n)

-- S at i - j, or v where there is no such instant
abbrev pub Back : Course → Bool → ℕ → ℕ → Type 0
Back S v i j = MatchBool (nat_le j i) (S (i - j)) (v ≡ true)

-- for each j from 1 to t, S at l - j is as S at k - ((j - 1) mod period)
abbrev pub Closed : ℕ → ℕ → ℕ → Bool → Course → Type 0
Closed k l t v S = (j : ℕ) → 1 ≤ j → j ≤ t → Back S v l j ↔ S (k - (j - 1) % period k l)

-- the run's loop closes on what a past row looks back at: its first operand's formula or its own
abbrev pub SettledPast : ℕ → ℕ → Word → Formula → Formula → Option Past → Type 0
SettledPast k l w operand itself None = Unit {0}
SettledPast k l w operand itself (Some p) = Closed k l p.reach p.before (Sat w (subject_of operand itself p.subject))

abbrev pub SettledRow : ℕ → ℕ → Word → (ℕ → Formula) → Row → Type 0
SettledRow k l w f r = SettledPast k l w (f (first r)) (form f r) (past r)

-- the word w of a run with the loop start l is settled for every row of a table
abbrev pub Settled : ℕ → ℕ → Word → List Row → Type 0
Settled k l w [] = Unit {0}
Settled k l w (r ∷ rs) = Settled k l w rs × SettledRow k l w (formula rs) r

-- the literals x say the truth of S at each instant below n
abbrev pub Tells : Assignment → Lits → ℕ → Course → Type 0
Tells α x n S = (i : ℕ) → i < n → Decides (truth α (x i)) (S i)

-- what E of until and release looks for in the loop: that the second operand is true, or for release that it is false
abbrev pub Sought : Shape → Type 0 → Type 0
Sought Free B = B
Sought Same B = B
Sought Both B = B
Sought Either B = B
Sought Upto B = B
Sought Hold B = B → ⊥
Sought Any B = B
Sought All B = B

-- what the extra variables e of a row say, of its operands' courses A and B and its distance t
abbrev pub ExtraTells : ℕ → ℕ → Assignment → Lits → Course → Course → ℕ → Shape → Extra → Type 0
ExtraTells k l α e A B t s Nothing = Unit {0}
ExtraTells k l α e A B t s Seen = Tells α e (suc k) (λ i. (j : ℕ) × (l ≤ j) × (j ≤ i) × Sought s (B j))
ExtraTells k l α e A B t s Ahead = Tells α e t (λ j. A (k + 1 + j))

abbrev pub ExtrasTell : ℕ → ℕ → Word → (ℕ → Formula) → Assignment → Lits → Row → Type 0
ExtrasTell k l w f α e r =
    ExtraTells k l α e (Sat w (f (first r))) (Sat w (f (second r))) (distance r) (operator_of r).shape (operator_of r).extra

-- L and N say that the loop starts at l
abbrev pub Marks : ℕ → Assignment → ℕ → Type 0
Marks k α l = (i : ℕ) → i ≤ k → (truth α (starts i) ≡ (l == i)) × (truth α (inside k i) ≡ nat_le l i)

-- every variable of the table's rows says what it stands for, on the word w of a run with the loop start l
abbrev pub Belongs : ℕ → ℕ → Word → Assignment → List Row → Type 0
Belongs k l w α [] = Marks k α l
Belongs k l w α (r ∷ rs) =
    Belongs k l w α rs × Tells α (block (top k rs)) (suc k) (Sat w (form (formula rs) r))
    × ExtrasTell k l w (formula rs) α (block (top k rs + suc k)) r
