-- What a judge's area says of a clause, and of the first false clause.
use Rattle.std.proofs.Common.{◌≡◌, ℕ, Bool, true, false, cond, not, ◌&&◌, ◌||◌, List, [], ◌∷◌, Some, None, Option, is_none, refl, ap, ◌∙◌}
use Rattle.std.proofs.lemmas.Bool.{and_parts, leb-true}
use Rattle.cnf.specs.Clauses.{Assignment, Clause, truth, sat, within, in_range}
use Rattle.sinks.specs.Models.{Agrees, assigned, first_fault}

-- a clause within the range is as true under each assignment that agrees
pub sat_agrees : (area : List ℕ) (h : ℕ) (α : Assignment) → Agrees area h α → (c : Clause) → in_range h c ≡ true → sat α c ≡ sat (assigned area) c
sat_agrees area h α agrees [] ok = refl
sat_agrees area h α agrees (l ∷ ls) ok =
    let both = and_parts (within h l) (in_range h ls) ok in
    let ends = and_parts _ _ both.0 in
    let same : α l.variable ≡ assigned area l.variable = agrees l.variable (leb-true _ _ ends.0) (leb-true _ _ ends.1) in
    ap (λ b. cond l.positive b (not b) || sat α ls) same ∙ ap (λ b. truth (assigned area) l || b) (sat_agrees area h α agrees ls both.1)

-- the assignment stays in just if it was in and the clause is true
pub fault_in : (fault : Option ℕ) (number : ℕ) (b : Bool) → is_none (first_fault fault number b) ≡ (is_none fault && b)
fault_in None number true = refl
fault_in None number false = refl
fault_in (Some n) number b = refl
