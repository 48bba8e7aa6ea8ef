-- The lines of a work area, one for each row of a table, and what a row says over those of its operands.
use Rattle.std.specs.Prelude.{◌≡◌, ℕ, ◌+◌, ◌*◌, ◌<◌, ◌≤◌, true, false, ◌⊎◌, List, [], ◌∷◌, take, drop, Some, None, Option}
use Rattle.mtl.specs.declared.row.Row.{Row}
use Rattle.mtl.specs.declared.row.Row.TheVariants.{Signal, Not, And, Or, Next, Until, Release, After, Within, Throughout, Previous, WeakPrevious, Since, Trigger, Ago, Lately, Steadily}
use Rattle.mtl.specs.Formula.{Course}
use Rattle.mtl.specs.Formula.{Since as SinceOf, Trigger as TriggerOf, Until as UntilOf, Release as ReleaseOf, Within as WithinOf, Throughout as ThroughoutOf, Lately as LatelyOf, Steadily as SteadilyOf}
use Rattle.mtl.specs.Rows.{Past, past, first, operands, distance, signal_of}
use Rattle.mtl.specs.Lists.{subject_of}
use Rattle.mtl.specs.Runs.{Back, Closed}
use Rattle.evaluate.specs.Letters.{has}
use Rattle.evaluate.specs.Bits.{At, Round}

-- line m of a work area: k + 1 bytes
abbrev pub line : ℕ → List ℕ → ℕ → List ℕ
line k work m = take (k + 1) (drop (m * (k + 1)) work)

-- the truth of a row at an instant from 0 to k, over the lines v of its operands
abbrev pub Meant : ℕ → ℕ → List ℕ → (ℕ → List ℕ) → Row → Course
Meant k l letters v (Signal a) i = has letters i a ≡ true
Meant k l letters v (Not a) i = At false (v a) i
Meant k l letters v (And a b) i = At true (v a) i × At true (v b) i
Meant k l letters v (Or a b) i = At true (v a) i ⊎ At true (v b) i
Meant k l letters v (Next a) i = Round k l true (v a) (i + 1)
Meant k l letters v (Until a b) i = UntilOf (Round k l true (v a)) (Round k l true (v b)) i
Meant k l letters v (Release a b) i = ReleaseOf (Round k l true (v a)) (Round k l true (v b)) i
Meant k l letters v (After a t) i = Round k l true (v a) (i + t)
Meant k l letters v (Within a t) i = WithinOf (Round k l true (v a)) t i
Meant k l letters v (Throughout a t) i = ThroughoutOf (Round k l true (v a)) t i
Meant k l letters v (Previous a) i = Back (At true (v a)) false i 1
Meant k l letters v (WeakPrevious a) i = Back (At true (v a)) true i 1
Meant k l letters v (Since a b) i = SinceOf (At true (v a)) (At true (v b)) i
Meant k l letters v (Trigger a b) i = TriggerOf (At true (v a)) (At true (v b)) i
Meant k l letters v (Ago a t) i = Back (At true (v a)) false i t
Meant k l letters v (Lately a t) i = LatelyOf (At true (v a)) t i
Meant k l letters v (Steadily a t) i = SteadilyOf (At true (v a)) t i

-- the loop closes on the subject of a past row: its operand's line a or its own, x
abbrev pub ClosingPast : ℕ → ℕ → List ℕ → List ℕ → Option Past → Type 0
ClosingPast k l a x None = Unit {0}
ClosingPast k l a x (Some p) = Closed k l p.reach p.before (At true (subject_of a x p.subject))

abbrev pub Closing : ℕ → ℕ → (ℕ → List ℕ) → List ℕ → Row → Type 0
Closing k l v x r = ClosingPast k l (v (first r)) x (past r)

-- every number of the list is below n
abbrev pub Below : ℕ → List ℕ → Type 0
Below n [] = Unit {0}
Below n (m ∷ ms) = (m < n) × Below n ms

abbrev pub Low : Option ℕ → Type 0
Low None = Unit {0}
Low (Some a) = a ≤ 31

-- the row's operands are among the first n rows, its distance and its signal are at most 31
abbrev pub Ready : ℕ → Row → Type 0
Ready n r = Below n (operands r) × (distance r ≤ 31) × Low (signal_of r)
