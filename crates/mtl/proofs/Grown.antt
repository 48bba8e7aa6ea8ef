-- What a row that is added leaves as it was.
use Rattle.std.proofs.Common.{◌≡◌, ℕ, ◌<◌, false, eqb, List, [], ◌∷◌, ◌++◌, reverse, length, ap, ◌∙◌, arith}
use Rattle.std.proofs.lemmas.Bool.{cond-false, ne_eqb}
use Rattle.std.proofs.lemmas.List.{reverse-append, length-reverse}
use Rattle.mtl.specs.declared.row.Row.{Row}
use Rattle.mtl.specs.Lists.{top, start, clauses}
use Rattle.mtl.specs.Runs.{form, formula}
use Rattle.mtl.specs.Statements.{Grown}

pushed : (rows : List Row) (r : Row) → reverse (rows ++ r ∷ []) ≡ r ∷ reverse rows
pushed rows r = reverse-append rows (r ∷ [])

older : (rows : List Row) (n : ℕ) → n < length rows → eqb n (length (reverse rows)) ≡ false
older rows n c = let e = length-reverse rows in ne_eqb n (length (reverse rows)) (λ q. omega arith)

pub grown : Grown
grown = record {
  clauses_more = λ k rows r. ap (clauses k) (pushed rows r);
  start_stays = λ k rows r n c. ap (λ rs. start k rs n) (pushed rows r) ∙ cond-false (eqb n (length (reverse rows))) (top k (reverse rows)) (start k (reverse rows) n) (older rows n c);
  formula_stays = λ rows r n c. ap (λ rs. formula rs n) (pushed rows r) ∙ cond-false (eqb n (length (reverse rows))) (form (formula (reverse rows)) r) (formula (reverse rows) n) (older rows n c);
}
