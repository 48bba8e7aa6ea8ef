-- What a sink means, and what an accepted clause changes.
use Rattle.std.specs.Prelude.{◌≡◌, ℕ, ◌+◌, ◌≤◌, Bool, ◌&&◌, length, Result}
use Rattle.cnf.specs.declared.refusal.Refusal.{Refusal}
use Rattle.cnf.specs.Clauses.{Assignment, Clause, sat}
use Rattle.cnf.specs.Refusals.{verdict}

-- what a kind of sink means, by its values
pub record Model (S : Type 0) : Type 1 where
  -- the longest clause, the highest variable, the free cells and the count of clauses
  pub longest : S → ℕ
  pub highest : S → ℕ
  pub cells : S → ℕ
  pub count : S → ℕ
  -- the assignments that it watches, the value that it reads for each variable in one, and whether one is still in
  pub watched : S → Assignment → Type 0
  pub gives : S → Assignment → Assignment
  pub inside : S → Assignment → Bool
  -- what an accepted clause does to this kind of sink, in full
  pub takes : S → Clause → S → Type 0
  -- no clause has more than 40 literals
  pub short : (s : S) → longest s ≤ 40

-- what `take` answers
abbrev pub answer : {S : Type 0} → Model S → S → Clause → Result (Unit {0}) Refusal
answer m s c = verdict (m.longest s) (m.highest s) (m.cells s) c

-- the sink s came to t by accepting the clause c
pub record Taken {S : Type 0} (m : Model S) (c : Clause) (s t : S) : Type 0 where
  -- in are those that were in and make one of its literals true
  pub meaning : (α : Assignment) → m.watched s α → m.inside t α ≡ (m.inside s α && sat (m.gives s α) c)
  pub counted : m.count t ≡ m.count s + 1
  -- the free cells fall by at most one for each literal and one more
  pub room : m.cells s ≤ m.cells t + (length c + 1)
  -- nothing else changes
  pub same_longest : m.longest t ≡ m.longest s
  pub same_highest : m.highest t ≡ m.highest s
  pub same_values : (α : Assignment) → m.gives t α ≡ m.gives s α
  pub still_watched : (α : Assignment) → m.watched s α → m.watched t α
  pub watched_before : (α : Assignment) → m.watched t α → m.watched s α
  pub step : m.takes s c t
