use Rattle.std.proofs.Common.{length, refl, ap, ◌∙◌, arith}
use Rattle.sinks.specs.Lines.{line}
use Rattle.sinks.proofs.Over.{length_over}
use Rattle.sinks.proofs.Writing.{roomy, written_next, inside_next}
use Rattle.sinks.proofs.writer.sink.WriterSink.accept.Goals as goal

pub put_line-self-requires : goal.put_line-self-requires
put_line-self-requires c = (roomy _ _ c.args.clause.now c.requires).held

pub invariant_of-self : goal.invariant_of-self
invariant_of-self c =
    let s = c.args.self.now in
    let d = c.args.clause.now in
    let put = c.put_line-self.ensures in
    let r = roomy (length s.area.now) s.used d c.requires in
    record { written = written_next s.area.now _ s.used _ s.taken d s.written r.ranged put.area put.end (omega arith) (omega arith) }

pub returns : goal.returns
returns c =
    let s = c.args.self.now in
    let d = c.args.clause.now in
    let put = c.put_line-self.ensures in
    let r = roomy (length s.area.now) s.used d c.requires in
    record {
      meaning = λ α _. inside_next s.area.now _ s.used _ s.taken d s.written r.ranged put.area put.end α;
      counted = refl;
      room = omega (arith, ap length put.area ∙ length_over s.area.now s.used (line d) (omega arith) r.held);
      same_longest = refl;
      same_highest = refl;
      same_values = λ _. refl;
      still_watched = λ _ _. tt;
      watched_before = λ _ _. tt;
      step = record { bytes = put.area; used = put.end; fits = r.held; ranged = r.ranged; same_area = refl };
    }
