use Rattle.std.proofs.Common.{◌≡◌, length, refl, ◌∙◌, rules}
use Rattle.std.proofs.lemmas.Bool.{both_ways}
use Rattle.text.specs.Split.{lines, kept}
use Rattle.answers.specs.Reading.{literals}
use Rattle.answers.proofs.Results.{none_given, values_given, value_missing, filled}
use Rattle.answers.proofs.reading.read_values.Goals as goal

pub give_all-requires-clause-none : goal.give_all-requires-clause-none
give_all-requires-clause-none c = none_given (length c.args.area.now) 2112

pub returns-then-not-are_given-clause-said : goal.returns-then-not-are_given-clause-said
returns-then-not-are_given-clause-said c =
    let v = length c.args.area.now in
    let vs = c.give_all.new.values in
    let given = c.in_ok-give_all.ensures in
    let sized : length vs ≡ v = search rules in
    value_missing v _ vs (literals (kept (lines c.args.text.now))) sized c.give_all.ensures.size c.in_ok-give_all.field-0 given.answer given.given (λ all. both_ways c.are_given.result c.if-not-are_given.true (c.are_given.ensures.1 all))

pub returns : goal.returns
returns c =
    let v = length c.args.area.now in
    let vs = c.give_all.new.values in
    let o = literals (kept (lines c.args.text.now)) in
    let given = c.in_ok-give_all.ensures in
    let sized : length vs ≡ v = search rules in
    record {
      said = values_given v _ vs o sized c.give_all.ensures.size c.in_ok-give_all.field-0 given.answer given.given (c.are_given.ensures.0 c.if-not-are_given.false);
      written = c.write.ensures ∙ filled v _ vs o sized c.give_all.ensures.size c.in_ok-give_all.field-0 given.answer given.given c.args.area.now refl;
    }
