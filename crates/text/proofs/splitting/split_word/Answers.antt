use Rattle.std.proofs.Common.{ap, ◌∙◌}
use Rattle.text.specs.Split.{words}
use Rattle.text.proofs.Splits.{words-front, whole_word}
use Rattle.text.proofs.splitting.split_word.Goals as goal

pub returns-in-Some-clause-first : goal.returns-in-Some-clause-first
returns-in-Some-clause-first c = ap words c.in-Some.ensures.1 ∙ words-front c.in-Some.word.now c.in-Some.rest.now c.in-Some.ensures.0

pub returns-in-None-clause-first : goal.returns-in-None-clause-first
returns-in-None-clause-first c = whole_word c.args.line.now c.in-None.ensures
