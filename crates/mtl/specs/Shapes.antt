-- The shapes that clause lists are made of.
use Rattle.std.specs.Prelude.{ℕ, zero, suc, List, [], ◌∷◌, ◌++◌, map}
use Rattle.cnf.specs.declared.clause.Literal.{Literal}
pub use Rattle.cnf.specs.Clauses.{given}
use Rattle.cnf.specs.Clauses.{Clauses, opposite}

-- x is y
abbrev pub same : Literal → Literal → Clauses
same x y = (opposite x ∷ y ∷ []) ∷ (x ∷ opposite y ∷ []) ∷ []

-- x is a and b
abbrev pub both : Literal → Literal → Literal → Clauses
both x a b = (opposite x ∷ a ∷ []) ∷ (opposite x ∷ b ∷ []) ∷ (x ∷ opposite a ∷ opposite b ∷ []) ∷ []

-- x is a or b
abbrev pub either : Literal → Literal → Literal → Clauses
either x a b = (opposite x ∷ a ∷ b ∷ []) ∷ (x ∷ opposite a ∷ []) ∷ (x ∷ opposite b ∷ []) ∷ []

-- x is b, or a and y
abbrev pub upto : Literal → Literal → Literal → Literal → Clauses
upto x b a y =
    (opposite x ∷ b ∷ a ∷ []) ∷ (opposite x ∷ b ∷ y ∷ []) ∷ (x ∷ opposite b ∷ []) ∷ (x ∷ opposite a ∷ opposite y ∷ []) ∷ []

-- x is b, and a or y
abbrev pub hold : Literal → Literal → Literal → Literal → Clauses
hold x b a y =
    (opposite x ∷ b ∷ []) ∷ (opposite x ∷ a ∷ y ∷ []) ∷ (x ∷ opposite b ∷ opposite a ∷ []) ∷ (x ∷ opposite b ∷ opposite y ∷ []) ∷ []

-- x is some g
abbrev pub any : Literal → List Literal → Clauses
any x gs = (opposite x ∷ gs) ∷ map (λ g. x ∷ opposite g ∷ []) gs

-- x is every g
abbrev pub all : Literal → List Literal → Clauses
all x gs = map (λ g. opposite x ∷ g ∷ []) gs ++ ((x ∷ map opposite gs) ∷ [])

-- the one clause p
abbrev pub unit : Literal → Clauses
unit p = (p ∷ []) ∷ []

-- each clause binds only where g is true
abbrev pub when : Literal → Clauses → Clauses
when g cs = map (λ c. opposite g ∷ c) cs

-- the clauses of f a, f (a + 1) and so on, n of them
abbrev pub each : ℕ → ℕ → (ℕ → Clauses) → Clauses
each a zero f = []
each a (suc n) f = f a ++ each (suc a) n f

-- a sequence of literals, one for each instant
abbrev pub Lits : Type 0
Lits = ℕ → Literal

-- f i, f (i + 1) and so on, n of them
abbrev pub span : Lits → ℕ → ℕ → List Literal
span f i zero = []
span f i (suc n) = f i ∷ span f (suc i) n

-- f i down to f (max 0 (i - t))
abbrev pub down : Lits → ℕ → ℕ → List Literal
down f i zero = f i ∷ []
down f zero (suc t) = f zero ∷ []
down f (suc i) (suc t) = f (suc i) ∷ down f i t
