-- Worked cases. In a table of rows the newest stands first.
use Rattle.std.specs.Prelude.{◌≡◌, ℕ, ◌≤◌, Bool, true, false, ◌↔◌, List, [], ◌∷◌, map, is_ok, Ok, Err, codes, slice_index_or}
use Rattle.cnf.specs.declared.clause.Literal.{Literal}
use Rattle.cnf.specs.declared.switch.Switch.{Switch}
use Rattle.cnf.specs.Clauses.{Clause, asserted, negated, within}
use Rattle.cnf.specs.Layers.{switch_model}
use Rattle.cnf.specs.Questions.{first_no}
use Rattle.cnf.specs.Refusals.{verdict}
use Rattle.calls.specs.declared.Call.{Call}
use Rattle.calls.specs.declared.Call.TheVariants.{Begin, Define, Require}
use Rattle.sinks.specs.declared.writer.Writer.{Writer}
use Rattle.sinks.specs.Lines.{line, writer_cells}
use Rattle.sinks.specs.Models.{writer_model, LineFollows}
use Rattle.mtl.specs.declared.row.Row.TheVariants.{Signal, Previous, Since}
use Rattle.mtl.specs.Formula.{Formula, Word, Sat, signal, after, until, within as within_time}
use Rattle.mtl.specs.Runs.{word, Settled}
use Rattle.text.specs.Split.{lines}
use Rattle.frames.specs.declared.refusals.Refusal.TheVariants.{Sum}
use Rattle.frames.specs.Numbers.{number as line_number}
use Rattle.frames.specs.Script.{calling}
use Rattle.job.specs.declared.refusal.Refusal.TheVariants.{Bound}
use Rattle.job.specs.declared.call.Reply.TheVariants as reply
use Rattle.job.specs.Calls.{Answer, fresh, begin_asks, highest}
use Rattle.job.specs.Refusals.{number as call_number}
use Rattle.job.specs.Runs.{written}
use Rattle.script.specs.Files.{file}
use Rattle.script.specs.Same.{all_after}

-- bound 0, signal 0, next of it, and next required to be true at 0
abbrev pub four_lines : List ℕ
four_lines = codes "B00050\nD0010000002F\nD0050000002B\nE00100011E\n"

abbrev pub four_calls : List Call
four_calls =
    Begin (record { bound = 0 })
    ∷ Define (record { code = 1; a = 0; b = 0; t = 0 })
    ∷ Define (record { code = 5; a = 0; b = 0; t = 0 })
    ∷ Require (record { row = 1; instant = 0; value = 1 })
    ∷ []

abbrev pub four_answers : List Answer
four_answers = Ok reply.Done ∷ Ok (reply.Row 0) ∷ Ok (reply.Row 1) ∷ Ok reply.Done ∷ []

-- every signal is on at the instants that the list says
abbrev pub on_at : List Bool → Word
on_at bs i a = slice_index_or bs i false

pub record Cases : Type 0 where
  -- 1: the lines are those calls, and their file
  pub read : map calling (lines four_lines) ≡ map Ok four_calls
  pub filed : file (highest (all_after fresh four_calls)) (written fresh four_calls four_answers) ≡ codes "p cnf 4 6\n1 0\n-2 1 0\n2 -1 0\n-1 -4 3 0\n-1 4 -3 0\n4 0\n"
  -- 2: k 31 passes, 32 gives 11
  pub bound_31 : first_no (begin_asks fresh 31) reply.Done ≡ Ok reply.Done
  pub bound_32 : first_no (begin_asks fresh 32) reply.Done ≡ Err Bound
  pub eleventh : call_number Bound ≡ 11
  -- 3: previous, with k and l 1, where the letters off, on are unsettled; with k and l 2, where off, on, on are settled
  pub unsettled : Settled 1 1 (word 1 1 (on_at (false ∷ true ∷ []))) (Previous 0 ∷ Signal 0 ∷ []) → ⊥
  pub settled : Settled 2 2 (word 2 2 (on_at (false ∷ true ∷ true ∷ []))) (Previous 0 ∷ Signal 0 ∷ [])
  -- 4: since, with k and l 0 and its second operand always true, is unsettled
  pub always : (w : Word) → ((i : ℕ) → w i 1 ≡ true) → Settled 0 0 w (Since 0 1 ∷ Signal 1 ∷ Signal 0 ∷ []) → ⊥
  -- 5: within 0 is its operand
  pub at_once : (w : Word) (f : Formula) (i : ℕ) → Sat w (within_time f 0) i ↔ Sat w f i
  -- 6: after 3 at instant 2, with k 2 and l 1, is its operand at 1
  pub around : (letters : Word) → Sat (word 2 1 letters) (after (signal 0) 3) 2 ↔ Sat (word 2 1 letters) (signal 0) 1
  -- 7: until is false at k where its first operand is true all round the loop and its second never in it
  pub circling :
      (k l : ℕ) (letters : Word) → l ≤ k → ((i : ℕ) → l ≤ i → i ≤ k → letters i 0 ≡ true) → ((i : ℕ) → l ≤ i → i ≤ k → letters i 1 ≡ false)
      → Sat (word k l letters) (until (signal 0) (signal 1)) k → ⊥
  -- 8: the clause 5 -6 through the switch 9 over a writer is the line -9 5 -6
  pub switched :
      (s t : Switch Writer) → s.variable ≡ 9 → (switch_model writer_model).takes s (asserted 5 ∷ negated 6 ∷ []) t
      → LineFollows (negated 9 ∷ asserted 5 ∷ negated 6 ∷ []) s.below t.below
  pub its_line : line (negated 9 ∷ asserted 5 ∷ negated 6 ∷ []) ≡ codes "-9 5 -6 0\n"
  -- 9: eleven free bytes take no clause, twelve take one literal
  pub eleven_bytes : (c : Clause) → is_ok (verdict 40 9999 (writer_cells 11 0) c) ≡ false
  pub twelve_bytes : (l : Literal) → within 9999 l ≡ true → is_ok (verdict 40 9999 (writer_cells 12 0) (l ∷ [])) ≡ true
  -- 10: B00051 gives 2
  pub wrong_sum : calling (codes "B00051") ≡ Err Sum
  pub second : line_number Sum ≡ 2
