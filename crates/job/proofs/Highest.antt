-- The highest variable of a job with one row more.
use Rattle.std.proofs.Common.{◌≡◌, suc, ◌+◌, ◌-◌, true, cond, List, [], ◌∷◌, ◌++◌, reverse, ap, ◌∙◌}
use Rattle.std.proofs.lemmas.List.{reverse-append}
use Rattle.mtl.specs.declared.row.Row.{Row}
use Rattle.mtl.specs.Rows.{extra}
use Rattle.mtl.specs.Lists.{top}
use Rattle.job.specs.Calls.{State, highest, with_row}

pub reverse_more : {X : Type 0} (xs : List X) (x : X) → reverse (xs ++ (x ∷ [])) ≡ x ∷ reverse xs
reverse_more xs x = reverse-append xs (x ∷ [])

pub highest_more : (s : State) (r : Row) → s.begun ≡ true → highest (with_row s r) ≡ (top s.bound (reverse s.rows) + (suc s.bound + extra s.bound r)) - 1
highest_more s r e =
    ap (λ b. cond b (top s.bound (reverse (s.rows ++ (r ∷ []))) - 1) 0) e
    ∙ ap (λ rs. top s.bound rs - 1) (reverse_more s.rows r)
