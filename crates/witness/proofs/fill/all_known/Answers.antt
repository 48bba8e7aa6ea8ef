use Rattle.std.proofs.Common.{◌≡◌, ℕ, ◌<◌, true, false, ◌⊎◌, length, refl, ⊎_elim, arith, rules, tests}
use Rattle.std.proofs.lemmas.Bool.{both_ways, cases_Bool}
use Rattle.mtl.specs.Layout.{rows_of}
use Rattle.mtl.specs.Tables.{has_signal}
use Rattle.evaluate.specs.Letters.{has}
use Rattle.evaluate.proofs.Ranges.{all_in_range}
use Rattle.witness.proofs.fill.all_known.Goals as goal

pub returns : goal.returns
returns c =
    let ls = c.args.letters.now in
    let d = all_in_range _ _ _ _ (λ a. (i : ℕ) → i < length ls → has ls i a ≡ true → has_signal a (rows_of c.args.table.now) ≡ true) c.all.ensures.ran
    (λ x q k.
    let e : (q ≡ (c.args.table, c.args.letters)) = search (rules, tests) in
    let h : (has_signal x (rows_of c.args.table.now) ≡ true) ⊎ ((i : ℕ) → i < length ls → has ls i x ≡ false) = search (rules, tests) in
    (e, λ i b t. ⊎_elim (λ s. s) (λ u. absurd (both_ways (has ls i x) (u i b) t)) h))
    (λ x q k p.
    let h : (has_signal x (rows_of c.args.table.now) ≡ false) × (((i : ℕ) → i < length ls → has ls i x ≡ false) → ⊥) = search (rules, tests) in
    h.1 (λ i b. ⊎_elim (λ t. absurd (both_ways (has_signal x (rows_of c.args.table.now)) h.0 (p i b t))) (λ f. f) (cases_Bool (has ls i x))))
    0 31 refl refl in
    ((λ e i a h b. d.0 e a (omega arith) (omega arith) i h), λ f. d.1 (λ a _ b i h. f i a h (omega arith)))
