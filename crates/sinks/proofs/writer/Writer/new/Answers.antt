use Rattle.std.proofs.Common.{refl, rules}
use Rattle.sinks.specs.Lines.{read_from}
use Rattle.sinks.proofs.writer.Writer.new.Goals as goal

pub invariant_of-result : goal.invariant_of-result
unfolding read_from
invariant_of-result c = search rules

pub returns : goal.returns
unfolding read_from
returns c = record { new = record { bytes = refl; unused = refl; no_clause = refl; all_in = λ _. refl }; name = refl }
