use Rattle.std.specs.Iterator.Adapters.{enumerate_source, enumerate_count}
use Rattle.text.specs.Left.{lines_left}
use Rattle.script.proofs.LineByLine.{SoFar}
use Rattle.script.proofs.running.perform_script.Given as goal

abbrev pub invariant-loop-i : goal.invariant-loop-i
invariant-loop-i g l = SoFar g.S.Sink.model l.initial.job l.script (enumerate_count l.i-iterator) (lines_left (enumerate_source l.i-iterator)) l.job
