-- The calls of a script: its kinds are those of begin, define and require.
use Rattle.std.specs.Prelude.{ℕ, Bool, cond, ◌||◌, List, [], ◌∷◌, ◌++◌, map, length, Result, ◌==◌, slice_index}
use Rattle.cnf.specs.Questions.{Question, ask, first_no}
use Rattle.text.specs.Split.{lines}
use Rattle.frames.specs.declared.refusals.Refusal.{Refusal}
use Rattle.frames.specs.declared.refusals.Refusal.TheVariants.{Kind, Length}
use Rattle.calls.specs.declared.Call.{Call}
use Rattle.calls.specs.declared.Call.TheVariants.{Begin, Define, Require}
use Rattle.frames.specs.Hex.{decoded}
use Rattle.frames.specs.Layouts.{begin_layout, define_layout, require_layout}
use Rattle.frames.specs.Lines.{line_asks}
use Rattle.frames.specs.Written.{written}

-- is it the code of a kind of scripts?
abbrev pub in_script : ℕ → Bool
in_script code = code == begin_layout.code || (code == define_layout.code || code == require_layout.code)

-- what the kinds of scripts give for their codes; question 3 lets no other code come as far as the last case
abbrev pub by_kind : {X : Type 0} → ℕ → X → X → X → X
by_kind code begun defined required = cond (code == begin_layout.code) begun (cond (code == define_layout.code) defined required)

-- questions 3 and 4, of the bytes, in a script
abbrev pub call_asks : List ℕ → List (Question Refusal)
call_asks bs =
    ask (in_script (slice_index bs 0)) Kind
    ∷ ask (length bs == by_kind (slice_index bs 0) begin_layout.size define_layout.size require_layout.size) Length
    ∷ []

-- the call in the bytes of a frame of a script
abbrev pub call_in : List ℕ → Call
call_in bs = by_kind (slice_index bs 0) (Begin (begin_layout.fields bs)) (Define (define_layout.fields bs)) (Require (require_layout.fields bs))

-- the call of a line, by all four questions
abbrev pub calling : List ℕ → Result Call Refusal
calling line = first_no (line_asks line ++ call_asks (decoded line)) (call_in (decoded line))

-- what each line of a script answers
abbrev pub answers : List ℕ → List (Result Call Refusal)
answers script = map calling (lines script)

-- the line of a call
abbrev pub written_call : Call → List ℕ
written_call (Begin x) = written begin_layout x
written_call (Define x) = written define_layout x
written_call (Require x) = written require_layout x
