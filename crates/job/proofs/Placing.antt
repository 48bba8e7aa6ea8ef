-- The lists that the job hands down are those of its calls.
use Rattle.std.proofs.Common.{◌≡◌, ℕ, suc, ◌+◌, ◌-◌, ◌*◌, ◌<◌, ◌≤◌, true, cond, [], ◌∷◌, reverse, length, sym, ap, ◌∙◌, subst, arith}
use Rattle.cnf.specs.Clauses.{Clauses}
use Rattle.mtl.specs.declared.row.Row.{Row}
use Rattle.mtl.specs.declared.requirement.Requirement.{Requirement}
use Rattle.mtl.specs.Rows.{first, second, distance}
use Rattle.mtl.specs.Lists.{begin, block, top, start, row_clauses}
use Rattle.mtl.specs.Tables.{fits_after}
use Rattle.mtl.specs.Statements.{Takes}
use Rattle.mtl.proofs.Ranged.{ranged}
use Rattle.mtl.proofs.Tables.{top_least, fits}
use Rattle.encode.specs.declared.place.Place.{Place}
use Rattle.job.specs.Calls.{State, highest, define_list, require_list, with_bound, with_row}
use Rattle.job.specs.States.{Placed}
use Rattle.job.proofs.Highest.{highest_more}
use Rattle.job.proofs.Limits.{takes_more}

abbrev pub placed_list : Place → Row → Clauses
placed_list p r = row_clauses p.k (block p.a) (block p.b) (block p.x) (block (p.x + suc p.k)) r

pub placed_is : (s : State) (r : Row) (p : Place) → Placed s r p → placed_list p r ≡ define_list s r
placed_is s r p h =
    ap (λ k. row_clauses k (block p.a) (block p.b) (block p.x) (block (p.x + suc k)) r) h.k
    ∙ ap (λ a. row_clauses s.bound (block a) (block p.b) (block p.x) (block (p.x + suc s.bound)) r) h.a
    ∙ ap (λ b. row_clauses s.bound (block (start s.bound (reverse s.rows) (first r))) (block b) (block p.x) (block (p.x + suc s.bound)) r) h.b
    ∙ ap (λ x. row_clauses s.bound (block (start s.bound (reverse s.rows) (first r))) (block (start s.bound (reverse s.rows) (second r))) (block x) (block (x + suc s.bound)) r) h.x

pub near_row : (s : State) (r : Row) → fits_after s.rows r ≡ true → distance r ≤ 31
near_row s r e = (fits s.rows r e).near

pub begin_takes : (s : State) (k : ℕ) → Takes (highest (with_bound s k)) (begin k)
begin_takes s k = takes_more (2 * k + 2) _ (begin k) (omega (arith, top_least k (reverse s.rows))) (ranged.begins k)

pub row_takes : (s : State) (r : Row) → s.begun ≡ true → fits_after s.rows r ≡ true → Takes (highest (with_row s r)) (define_list s r)
row_takes s r b e = subst (λ n. Takes n (define_list s r)) (sym (highest_more s r b)) (ranged.row_added s.bound s.rows r e)

pub require_takes : (s : State) (q : Requirement) → s.begun ≡ true → q.row < length s.rows → q.instant ≤ s.bound → Takes (highest s) (require_list s q)
require_takes s q b there inside =
    subst (λ n. Takes n (require_list s q)) (sym (ap (λ x. cond x (top s.bound (reverse s.rows) - 1) 0) b)) (ranged.required s.bound s.rows (q ∷ []) (there, inside, tt))
