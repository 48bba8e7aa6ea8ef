-- The clauses of each part at an instant, and of each claim.
use Rattle.std.specs.Prelude.{◌≡◌, ℕ, suc, ◌+◌, ◌-◌, ◌%◌, ◌<◌, Bool, cond, ◌∷◌, Some, None, Option, nat_le}
use Rattle.cnf.specs.declared.clause.Literal.{Literal}
use Rattle.cnf.specs.Clauses.{Clause, Clauses, opposite}
use Rattle.bounded.specs.Items.{items}
use Rattle.mtl.specs.Shapes.{same, both, either, upto, hold, any, all, given, unit, when, each, Lits, span, down}
use Rattle.mtl.specs.Rows.{Subject, operand, itself, Past, looks_back}
use Rattle.mtl.specs.Lists.{starts, inside, block, period, ahead, closed_at, subject_of}
use Rattle.encode.specs.declared.place.Place.{Place}
use Rattle.encode.specs.declared.part.Back.{Back}
use Rattle.encode.specs.declared.part.Guard.{Guard}
use Rattle.encode.specs.declared.part.Guard.TheVariants.{Always, Inside, Start, StartAt}
use Rattle.encode.specs.declared.part.Link.{Link}
use Rattle.encode.specs.declared.part.Link.TheVariants.{Next, Until, Release}
use Rattle.encode.specs.declared.part.Part.{Part}
use Rattle.encode.specs.declared.part.Part.TheVariants as part
use Rattle.encode.specs.declared.part.Claim.{Claim}
use Rattle.encode.specs.declared.part.Claim.TheVariants as claim

-- a clause behind the opposite of its guard
abbrev pub behind : Option Literal → Clause → Clause
behind None c = c
behind (Some g) c = opposite g ∷ c

abbrev pub claimed : Claim → Clauses
claimed (claim.Unit p) = unit p
claimed (claim.Same x y) = same x y
claimed (claim.Both x a b) = both x a b
claimed (claim.Either x a b) = either x a b
claimed (claim.Upto x b a y) = upto x b a y
claimed (claim.Hold x b a y) = hold x b a y
claimed (claim.Any x gs) = any x (items gs)
claimed (claim.All x gs) = all x (items gs)

-- the clauses bind only where the guard is true
abbrev pub under : Option Literal → Clauses → Clauses
under None cs = cs
under (Some g) cs = when g cs

-- the literals of a row's first and second operand, its own and its extra ones, under their letters in the lists
abbrev pub lits_a : Place → Lits
lits_a p = block p.a

abbrev pub lits_b : Place → Lits
lits_b p = block p.b

abbrev pub lits_x : Place → Lits
lits_x p = block p.x

abbrev pub lits_e : Place → Lits
lits_e p = block (p.x + suc p.k)

-- instant i and instant n
abbrev pub linked : Place → Link → ℕ → ℕ → Clauses
linked p Next i n = same (lits_x p i) (lits_a p n)
linked p Until i n = upto (lits_x p i) (lits_b p i) (lits_a p i) (lits_x p n)
linked p Release i n = hold (lits_x p i) (lits_b p i) (lits_a p i) (lits_x p n)

-- what answers so gives the literals of f at the first n instants
abbrev pub Gives : (ℕ → Literal → Type 0) → ℕ → Lits → Type 0
Gives answers n f = (j : ℕ) (l : Literal) → j < n → answers j l → l ≡ f j

abbrev pub guard_at : Place → Guard → ℕ → Option Literal
guard_at p Always i = None
guard_at p Inside i = Some (inside p.k i)
guard_at p Start i = Some (starts i)
guard_at p (StartAt l) i = Some (starts l.value)

abbrev pub subject : Bool → Subject
subject own = cond own itself operand

abbrev pub meant : Option Back → Option Past
meant None = None
meant (Some b) = looks_back (subject b.own) b.reach.value b.before

abbrev pub delayed_at : Place → ℕ → Bool → ℕ → Clauses
delayed_at p t v i = cond (nat_le t i) (same (lits_x p i) (lits_a p (i - t))) (unit (given v (lits_x p i)))

abbrev pub seen_at : Place → Bool → ℕ → Clauses
seen_at p v i = upto (lits_e p (suc i)) (lits_e p i) (inside p.k (suc i)) (given v (lits_b p (suc i)))

-- what the past agrees with, where the loop starts at l
abbrev pub past_in : ℕ → Lits → Bool → ℕ → ℕ → Clauses
past_in k s v l j =
    cond (nat_le (suc j) l) (same (s (l - suc j)) (s (k - j % period k l))) (unit (given v (s (k - j % period k l))))

-- the literals whose past is meant
abbrev pub past_of : Place → Back → Lits
past_of p s = block (subject_of p.a p.x (subject s.own))

abbrev pub past_at : Place → Back → ℕ → ℕ → Clauses
past_at p s l j = past_in p.k (past_of p s) s.before l j

-- what a part claims at an instant
abbrev pub claimed_at : Place → Part → ℕ → Clauses
claimed_at p part.Apart i = unit (opposite (starts (suc i)))
claimed_at p part.Rise i = either (inside p.k (suc i)) (inside p.k i) (starts (suc i))
claimed_at p part.Not i = same (lits_x p i) (opposite (lits_a p i))
claimed_at p part.And i = both (lits_x p i) (lits_a p i) (lits_b p i)
claimed_at p part.Or i = either (lits_x p i) (lits_a p i) (lits_b p i)
claimed_at p (part.Forward r) i = linked p r i (suc i)
claimed_at p (part.Around r) l = linked p r p.k l
claimed_at p (part.Backward r) i = linked p r (suc i) i
claimed_at p (part.Seen v) i = seen_at p v i
claimed_at p (part.After t) i = same (lits_x p i) (ahead p.k (lits_a p) (lits_e p) (i + t.value))
claimed_at p (part.Within t) i = any (lits_x p i) (span (ahead p.k (lits_a p) (lits_e p)) i (suc t.value))
claimed_at p (part.Throughout t) i = all (lits_x p i) (span (ahead p.k (lits_a p) (lits_e p)) i (suc t.value))
claimed_at p (part.Lately t) i = any (lits_x p i) (down (lits_a p) i t.value)
claimed_at p (part.Steadily t) i = all (lits_x p i) (down (lits_a p) i t.value)
claimed_at p (part.Beyond j) l = same (lits_e p j.value) (lits_a p (l + j.value % period p.k l))
claimed_at p (part.Delayed t v) i = delayed_at p t.value v i
claimed_at p (part.Closed s l) j = past_at p s l.value j

-- the clauses of a part at an instant
abbrev pub clauses_at : Place → Guard → Part → ℕ → Clauses
clauses_at p g q i = under (guard_at p g i) (claimed_at p q i)

-- the turns of beyond and of closing
abbrev pub beyond_at : Place → ℕ → Clauses
beyond_at p j = each 0 (suc p.k) (λ l. when (starts l) (same (lits_e p j) (lits_a p (l + j % period p.k l))))

abbrev pub closing_at : Place → Back → ℕ → Clauses
closing_at p s l = each 0 s.reach.value (closed_at p.k (past_of p s) s.before l)
