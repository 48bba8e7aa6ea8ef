-- What each kind of row has, one table for each question.
use Rattle.std.specs.Prelude.{ℕ, suc, ◌-◌, Bool, true, false, List, [], ◌∷◌, take, Some, None, Option, slice_index_or}
use Rattle.mtl.specs.declared.row.Row.{Row}
use Rattle.mtl.specs.declared.row.Row.TheVariants.{Signal, Not, And, Or, Next, Until, Release, After, Within, Throughout, Previous, WeakPrevious, Since, Trigger, Ago, Lately, Steadily}
use Rattle.mtl.specs.declared.operator.Operator.{Operator}
use Rattle.mtl.specs.declared.operator.Extra.{Extra}
use Rattle.mtl.specs.declared.operator.Extra.TheVariants.{Nothing, Seen, Ahead}
use Rattle.mtl.specs.declared.operator.Shape.TheVariants.{Free}
use Rattle.mtl.specs.Operators.{operator, operators}

-- The fields of a row: its operator's code, a, b and t, each 0 where the operator has no use for it.
-- A signal has its number as a, every other row the number of its first operand's row.
abbrev pub code : Row → ℕ
code (Signal a) = 1
code (Not a) = 2
code (And a b) = 3
code (Or a b) = 4
code (Next a) = 5
code (Until a b) = 6
code (Release a b) = 7
code (After a t) = 8
code (Within a t) = 9
code (Throughout a t) = 10
code (Previous a) = 11
code (WeakPrevious a) = 12
code (Since a b) = 13
code (Trigger a b) = 14
code (Ago a t) = 15
code (Lately a t) = 16
code (Steadily a t) = 17

abbrev pub first : Row → ℕ
first (Signal a) = a
first (Not a) = a
first (And a b) = a
first (Or a b) = a
first (Next a) = a
first (Until a b) = a
first (Release a b) = a
first (After a t) = a
first (Within a t) = a
first (Throughout a t) = a
first (Previous a) = a
first (WeakPrevious a) = a
first (Since a b) = a
first (Trigger a b) = a
first (Ago a t) = a
first (Lately a t) = a
first (Steadily a t) = a

abbrev pub second : Row → ℕ
second (Signal a) = 0
second (Not a) = 0
second (And a b) = b
second (Or a b) = b
second (Next a) = 0
second (Until a b) = b
second (Release a b) = b
second (After a t) = 0
second (Within a t) = 0
second (Throughout a t) = 0
second (Previous a) = 0
second (WeakPrevious a) = 0
second (Since a b) = b
second (Trigger a b) = b
second (Ago a t) = 0
second (Lately a t) = 0
second (Steadily a t) = 0

abbrev pub distance : Row → ℕ
distance (Signal a) = 0
distance (Not a) = 0
distance (And a b) = 0
distance (Or a b) = 0
distance (Next a) = 0
distance (Until a b) = 0
distance (Release a b) = 0
distance (After a t) = t
distance (Within a t) = t
distance (Throughout a t) = t
distance (Previous a) = 0
distance (WeakPrevious a) = 0
distance (Since a b) = 0
distance (Trigger a b) = 0
distance (Ago a t) = t
distance (Lately a t) = t
distance (Steadily a t) = t

abbrev pub operator_of : Row → Operator
operator_of r = slice_index_or operators (code r - 1) (operator 0 0 false Nothing Free)

-- the rows that the row names
abbrev pub operands : Row → List ℕ
operands r = take (operator_of r).operands (first r ∷ second r ∷ [])

-- the signal of a signal's row
abbrev pub signal_of : Row → Option ℕ
signal_of (Signal a) = Some a
signal_of (Not a) = None
signal_of (And a b) = None
signal_of (Or a b) = None
signal_of (Next a) = None
signal_of (Until a b) = None
signal_of (Release a b) = None
signal_of (After a t) = None
signal_of (Within a t) = None
signal_of (Throughout a t) = None
signal_of (Previous a) = None
signal_of (WeakPrevious a) = None
signal_of (Since a b) = None
signal_of (Trigger a b) = None
signal_of (Ago a t) = None
signal_of (Lately a t) = None
signal_of (Steadily a t) = None

-- whose values before the loop a past row depends on: its first operand's, or its own
pub data Subject : Type 0 where
  operand itself : Subject

-- a past row's subject, how far back it reaches, and the subject's value before instant 0
pub record Past : Type 0 where
  pub subject : Subject
  pub reach : ℕ
  pub before : Bool

abbrev pub looks_back : Subject → ℕ → Bool → Option Past
looks_back s t v = Some (record { subject = s; reach = t; before = v })

abbrev pub past : Row → Option Past
past (Signal a) = None
past (Not a) = None
past (And a b) = None
past (Or a b) = None
past (Next a) = None
past (Until a b) = None
past (Release a b) = None
past (After a t) = None
past (Within a t) = None
past (Throughout a t) = None
past (Previous a) = looks_back operand 1 false
past (WeakPrevious a) = looks_back operand 1 true
past (Since a b) = looks_back itself 1 false
past (Trigger a b) = looks_back itself 1 true
past (Ago a t) = looks_back operand t false
past (Lately a t) = looks_back operand t false
past (Steadily a t) = looks_back operand t true

-- how many variables a row has besides V(0) to V(k)
abbrev pub extra_count : ℕ → ℕ → Extra → ℕ
extra_count k t Nothing = 0
extra_count k t Seen = suc k
extra_count k t Ahead = t

abbrev pub extra : ℕ → Row → ℕ
extra k r = extra_count k (distance r) (operator_of r).extra
