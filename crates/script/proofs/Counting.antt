-- A new job accepts at most 97 calls, and the line of a call has at most 14 characters.
use Rattle.std.proofs.Common.{◌≡◌, ℕ, ◌+◌, ◌≤◌, Bool, true, false, cond, List, [], ◌∷◌, map, length, is_ok, Ok, Err, sym, ap, subst, arith}
use Rattle.std.proofs.lemmas.List.{length_push}
use Rattle.std.proofs.lemmas.Bool.{not-true, false≢true}
use Rattle.std.specs.List.{AllByRecursion}
use Rattle.cnf.specs.Sinks.{Model}
use Rattle.calls.specs.declared.Call.{Call}
use Rattle.calls.specs.declared.Call.TheVariants.{Begin, Define, Require}
use Rattle.frames.specs.Script.{written_call}
use Rattle.job.specs.Calls.{State, Answer, fresh, asks, after, answer_to, row_with, requirement}
use Rattle.job.specs.Runs.{then_knows, Ran, none, more}
use Rattle.job.proofs.Accepted.{Yes, define_yes, require_yes}
use Rattle.job.proofs.RunLaws.{accepted_yes}

abbrev one_if : Bool → ℕ
one_if b = cond b 1 0

-- how many accepted calls brought a job to what it knows
abbrev accepted : State → ℕ
accepted s = one_if s.begun + length s.rows + length s.kept

-- no more of them than there is room for
abbrev Room : State → Type 0
Room s = (length s.rows ≤ 32) × (length s.kept ≤ 64)

room_for : (s : State) → Room s → accepted s ≤ 97
room_for s (rows, kept) = omega (arith, at_most_one s.begun)
  where
    at_most_one : (b : Bool) → one_if b ≤ 1
    at_most_one true = omega arith
    at_most_one false = omega arith

-- an accepted call is one more
abbrev OneMore : State → State → Type 0
OneMore s s' = Room s' × (accepted s' ≡ accepted s + 1)

one_more : (s : State) (c : Call) → Yes (asks s c) → Room s → OneMore s (after s c)
one_more s (Begin _) (idle, _) room =
    let none_yet : one_if s.begun ≡ 0 = ap one_if (not-true s.begun idle) in
    (room, omega arith)
one_more s (Define d) y (rows, kept) =
    let new = define_yes s d y in
    let more_rows = length_push s.rows (row_with d) in
    ((omega (arith, new.room, more_rows), kept), omega (arith, more_rows))
one_more s (Require q) y (rows, kept) =
    let new = require_yes s q y in
    let more_kept = length_push s.kept (requirement q) in
    ((rows, omega (arith, new.room, more_kept)), omega (arith, more_kept))

module _ {S : Type 0} (m : Model S) where
  one_accepted : (k : S) (s : State) (c : Call) (a : Answer) → a ≡ answer_to m k s c → is_ok a ≡ true → Room s → OneMore s (then_knows s c a)
  one_accepted k s c (Ok r) e ok room = one_more s c (accepted_yes m k s c r e) room
  one_accepted k s c (Err _) e ok room = absurd (false≢true ok)

  all_accepted : {k k' : S} {s s' : State} {cs : List Call} {rs : List Answer} → Ran m k s cs rs k' s' → AllByRecursion (λ a. is_ok a ≡ true) rs → Room s → length cs + accepted s ≤ 97
  all_accepted (none {s = s}) oks room = omega (arith, room_for s room)
  all_accepted (more {k} {s = s} {c = c} {a = a} move rest) (ok, oks) room =
      let next = subst (OneMore s) (sym move.knows) (one_accepted k s c a move.answer ok room) in
      omega (arith, all_accepted rest oks next.0, next.1)

  pub at_most_97 : {k k' : S} {s : State} {cs : List Call} {rs : List Answer} → Ran m k fresh cs rs k' s → AllByRecursion (λ a. is_ok a ≡ true) rs → length cs ≤ 97
  at_most_97 ran oks = omega (arith, all_accepted ran oks (omega arith, omega arith))

-- the line of a call
abbrev pub Short : List ℕ → Type 0
Short l = length l ≤ 14

short : (c : Call) → Short (written_call c)
short (Begin _) = omega arith
short (Define _) = omega arith
short (Require _) = omega arith

pub all_short : (cs : List Call) → AllByRecursion Short (map written_call cs)
all_short [] = tt
all_short (c ∷ cs) = (short c, all_short cs)
