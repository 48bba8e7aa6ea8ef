-- What each call asks, hands down and changes, by what the job knows.
use Rattle.std.specs.Prelude.{ℕ, ◌-◌, Bool, true, false, cond, not, ◌&&◌, ◌||◌, List, [], ◌∷◌, ◌++◌, reverse, length, Some, None, Option, Result, ◌==◌, nat_le, nat_lt, slice_index_or}
use Rattle.cnf.specs.Clauses.{Clauses, longest_of, cells_of}
use Rattle.cnf.specs.Questions.{Question, ask, first_no}
use Rattle.cnf.specs.Sinks.{Model}
use Rattle.mtl.specs.declared.row.Row.{Row}
use Rattle.mtl.specs.declared.row.Row.TheVariants.{Signal as SignalRow}
use Rattle.mtl.specs.declared.requirement.Requirement.{Requirement}
use Rattle.mtl.specs.declared.operator.Operator.{Operator}
use Rattle.mtl.specs.declared.operator.Extra.TheVariants.{Nothing}
use Rattle.mtl.specs.declared.operator.Shape.TheVariants.{Free}
use Rattle.mtl.specs.Operators.{operator, operators}
use Rattle.mtl.specs.Rows.{operands, signal_of}
use Rattle.mtl.specs.Fields.{is_code, rows_with}
use Rattle.mtl.specs.Shapes.{given, unit}
use Rattle.mtl.specs.Lists.{begin, top, value, added}
use Rattle.mtl.specs.Tables.{all_below, has_signal}
use Rattle.job.specs.declared.refusal.Refusal.{Refusal}
use Rattle.job.specs.declared.refusal.Refusal.TheVariants.{Begun, Bound, Long, Variables, Cells, NotBegun, Full, Code, Unused, Operand, Signal, Distance, NoRow, Instant, Value, Requirements}
use Rattle.calls.specs.declared.Call.{Call}
use Rattle.calls.specs.declared.Call.TheVariants as call
use Rattle.calls.specs.declared.records.Define.{Define}
use Rattle.calls.specs.declared.records.Require.{Require}
use Rattle.job.specs.declared.call.Reply.{Reply}
use Rattle.job.specs.declared.call.Reply.TheVariants as reply

-- what a job knows: whether it is begun, its bound, and the rows and requirements accepted so far, the oldest first
pub record State : Type 0 where
  pub begun : Bool
  pub bound : ℕ
  pub rows : List Row
  pub kept : List Requirement

-- at the making
abbrev pub fresh : State
fresh = record { begun = false; bound = 0; rows = []; kept = [] }

-- the job's highest variable, 0 before begin
abbrev pub highest : State → ℕ
highest s = cond s.begun (top s.bound (reverse s.rows) - 1) 0

-- the row of a definition and the operator of a code; which ones they are for a number that is no code does not matter
abbrev pub row_with : Define → Row
row_with d = slice_index_or (rows_with d.a d.b d.t) (d.code - 1) (SignalRow 0)

abbrev pub operator_at : ℕ → Operator
operator_at code = slice_index_or operators (code - 1) (operator 0 0 false Nothing Free)

-- the fields that the operator has no use for are zero
abbrev pub unused_zero : Operator → ℕ → ℕ → Bool
unused_zero o b t = (o.operands == 2 || b == 0) && (o.timed || t == 0)

-- the signal, if any, is at most 31
abbrev pub low_signal : Option ℕ → Bool
low_signal None = true
low_signal (Some a) = nat_le a 31

-- the signal, if any, has no row
abbrev pub new_signal : List Row → Option ℕ → Bool
new_signal rs None = true
new_signal rs (Some a) = not (has_signal a rs)

-- the questions of each call that the job answers itself
abbrev pub begin_asks : State → ℕ → List (Question Refusal)
begin_asks s k = ask (not s.begun) Begun ∷ ask (nat_le k 31) Bound ∷ []

abbrev pub define_asks : State → Define → List (Question Refusal)
define_asks s d =
    ask s.begun NotBegun
    ∷ ask (nat_lt (length s.rows) 32) Full
    ∷ ask (is_code d.code) Code
    ∷ ask (unused_zero (operator_at d.code) d.b d.t) Unused
    ∷ ask (all_below (length s.rows) (operands (row_with d)) && low_signal (signal_of (row_with d))) Operand
    ∷ ask (new_signal s.rows (signal_of (row_with d))) Signal
    ∷ ask (nat_le d.t 31) Distance
    ∷ []

abbrev pub require_asks : State → Require → List (Question Refusal)
require_asks s q =
    ask s.begun NotBegun
    ∷ ask (nat_lt q.row (length s.rows)) NoRow
    ∷ ask (nat_le q.instant s.bound) Instant
    ∷ ask (nat_le q.value 1) Value
    ∷ ask (nat_lt (length s.kept) 64) Requirements
    ∷ []

abbrev pub asks : State → Call → List (Question Refusal)
asks s (call.Begin x) = begin_asks s x.bound
asks s (call.Define d) = define_asks s d
asks s (call.Require q) = require_asks s q

-- the clauses that an accepted call hands down, in order
abbrev pub define_list : State → Row → Clauses
define_list s r = added s.bound (reverse s.rows) r

abbrev pub require_list : State → Requirement → Clauses
require_list s q = unit (given q.value (value s.bound (reverse s.rows) q.row q.instant))

abbrev pub requirement : Require → Requirement
requirement q = record { row = q.row; instant = q.instant; value = (q.value == 1) }

abbrev pub list : State → Call → Clauses
list s (call.Begin x) = begin x.bound
list s (call.Define d) = define_list s (row_with d)
list s (call.Require q) = require_list s (requirement q)

-- what the job knows after an accepted call
abbrev pub with_bound : State → ℕ → State
with_bound s k = record { begun = true; bound = k; rows = s.rows; kept = s.kept }

abbrev pub with_row : State → Row → State
with_row s r = record { begun = s.begun; bound = s.bound; rows = s.rows ++ (r ∷ []); kept = s.kept }

abbrev pub with_requirement : State → Requirement → State
with_requirement s q = record { begun = s.begun; bound = s.bound; rows = s.rows; kept = s.kept ++ (q ∷ []) }

abbrev pub after : State → Call → State
after s (call.Begin x) = with_bound s x.bound
after s (call.Define d) = with_row s (row_with d)
after s (call.Require q) = with_requirement s (requirement q)

-- what an accepted call answers
abbrev pub reply_of : State → Call → Reply
reply_of s (call.Begin x) = reply.Done
reply_of s (call.Define d) = reply.Row (length s.rows)
reply_of s (call.Require q) = reply.Done

-- the last questions, put to the sink: of the list cs of a job whose highest variable comes to v
abbrev pub limits : ℕ → ℕ → ℕ → ℕ → ℕ → ℕ → List (Question Refusal)
limits longest highest free long v cells =
    ask (nat_le long longest) Long ∷ ask (nat_le v highest) Variables ∷ ask (nat_le cells free) Cells ∷ []

abbrev pub sink_asks : {S : Type 0} → Model S → S → ℕ → Clauses → List (Question Refusal)
sink_asks m s v cs = limits (m.longest s) (m.highest s) (m.cells s) (longest_of cs) v (cells_of cs)

abbrev pub Answer : Type 0
Answer = Result Reply Refusal

-- all questions of a call, at the sink k
abbrev pub questions : {S : Type 0} → Model S → S → State → Call → List (Question Refusal)
questions m k s c = asks s c ++ sink_asks m k (highest (after s c)) (list s c)

abbrev pub answer_to : {S : Type 0} → Model S → S → State → Call → Answer
answer_to m k s c = first_no (questions m k s c) (reply_of s c)
