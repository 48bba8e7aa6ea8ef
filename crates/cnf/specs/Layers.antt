-- What the sinks over another sink mean, by what the sink below means.
use Rattle.std.specs.Prelude.{◌≡◌, ℕ, ◌-◌, ◌/◌, ◌≤◌, Bool, true, false, cond, ◌&&◌, ◌∷◌, nat_le}
use Rattle.std.proofs.Common.{arith}
use Rattle.std.specs.Borrow.{MutBor}
use Rattle.cnf.specs.declared.switch.Switch.{Switch}
use Rattle.cnf.specs.Clauses.{negated}
use Rattle.cnf.specs.Sinks.{Model}

-- s is a variable of a sink with that highest variable
abbrev pub usable : ℕ → ℕ → Bool
usable s highest = nat_le 1 s && nat_le s highest

-- the longest clause of a switch, by its variable and the sink below
abbrev pub switch_longest : ℕ → ℕ → ℕ → ℕ
switch_longest s highest longest = cond (usable s highest) (longest - 1) 0

pub switch_short : (s highest longest : ℕ) → longest ≤ 40 → switch_longest s highest longest ≤ 40
switch_short s highest longest h = elim (usable s highest) as (λ b. cond b (longest - 1) 0 ≤ 40) [ true ↦ omega arith | false ↦ omega arith ]

-- A switch watches those watched below that have its variable true.
abbrev pub switch_model : {S : Type 0} → Model S → Model (Switch S)
switch_model m = record {
  longest = λ s. switch_longest s.variable (m.highest s.below) (m.longest s.below);
  highest = λ s. m.highest s.below;
  cells = λ s. m.cells s.below / 2;
  count = λ s. m.count s.below;
  watched = λ s α. m.watched s.below α × (usable s.variable (m.highest s.below) ≡ true) × (m.gives s.below α s.variable ≡ true);
  gives = λ s α. m.gives s.below α;
  inside = λ s α. m.inside s.below α;
  takes = λ s c t. m.takes s.below (negated s.variable ∷ c) t.below × (t.variable ≡ s.variable);
  short = λ s. switch_short s.variable (m.highest s.below) (m.longest s.below) (m.short s.below);
}

-- a sink that is lent means what it means to its owner
abbrev pub lent_model : {S : Type 0} → Model S → Model (MutBor S)
lent_model m = record {
  longest = λ s. m.longest s.now;
  highest = λ s. m.highest s.now;
  cells = λ s. m.cells s.now;
  count = λ s. m.count s.now;
  watched = λ s α. m.watched s.now α;
  gives = λ s α. m.gives s.now α;
  inside = λ s α. m.inside s.now α;
  takes = λ s c t. m.takes s.now c t.now × (t.ghost_name ≡ s.ghost_name);
  short = λ s. m.short s.now;
}
