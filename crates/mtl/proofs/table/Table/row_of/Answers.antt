use Rattle.std.proofs.Common.{◌≡◌, ap, ◌∙◌, tests, rules}
use Rattle.std.proofs.lemmas.Iterator.{YieldsList-from_slice}
use Rattle.std.proofs.lemmas.Iterator.Search.{position_from_yields_List}
use Rattle.mtl.specs.Rows.{signal_of}
use Rattle.mtl.specs.Tables.{is_signal, row_of}
use Rattle.mtl.proofs.Tables.{names_is, row_found}
use Rattle.mtl.proofs.table.Table.row_of.Goals as goal

pub returns : goal.returns
returns c =
    let a = c.args.a in
    let rows = c.as_slice.result.now in
    let at = position_from_yields_List (is_signal a) _ _ c.position.result c.position.ensures.ran (YieldsList-from_slice rows c.iter.ensures.rest) (λ x b q k. (search (rules, tests), names_is a (signal_of x.now) b (search (rules, tests)))) in
    let same : c.map.result ≡ c.position.result = search (rules, tests) in
    row_found a rows _ (same ∙ at) ∙ ap (row_of 0 a) c.as_slice.ensures
