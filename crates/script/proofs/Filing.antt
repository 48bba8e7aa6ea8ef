-- The heading and the lines of a file.
use Rattle.std.proofs.Common.{◌≡◌, ℕ, ◌+◌, ◌<◌, ◌≤◌, true, ◌↔◌, List, [], ◌∷◌, ◌++◌, length, take, drop, Ok, Err, codes, Result, sym, refl, ap, ◌∙◌, subst, arith, length-append}
use Rattle.std.proofs.lemmas.Fmt.{length-decimal-le}
use Rattle.std.proofs.lemmas.List.{drop_at}
use Rattle.std.specs.List.{flat_map}
use Rattle.cnf.specs.Clauses.{Assignment, Clauses, sat_all}
use Rattle.sinks.specs.declared.writer.Writer.{Writer}
use Rattle.sinks.specs.Lines.{line, over, read}
use Rattle.sinks.specs.Models.{writer_model, NewWriter}
use Rattle.sinks.proofs.Over.{over_next, take-over, length_over, pair_long}
use Rattle.sinks.proofs.Reading.{read-lines}
use Rattle.job.specs.Calls.{State, highest}
use Rattle.job.specs.Feeding.{Chain}
use Rattle.job.specs.Runs.{Possible}
use Rattle.job.proofs.Bottoms.{chain_writer, possible_is}
use Rattle.script.specs.declared.refusal.Stop.{Stop}
use Rattle.script.specs.Scripts.{clauses, DroveScript}
use Rattle.script.specs.Files.{heading, file, FileStands, Made, Filed}

pub heading-short : (v n : ℕ) → v < 10000 → n < 100000 → length (heading v n) ≤ 17
heading-short v n h k = omega (arith, pair_long (codes "p cnf ") v n, length-decimal-le 4 v (omega arith) h (omega arith), length-decimal-le 5 n (omega arith) k (omega arith))

-- a writer keeps the area that it was lent, and its length
chain_length : (cs : Clauses) (w v : Writer) → Chain writer_model.takes cs w v → length v.area.now ≡ length w.area.now
chain_length [] w v e = ap (λ x. length x.area.now) e
chain_length (c ∷ cs) w v (u, first, rest) =
    chain_length cs u v rest ∙ ap length first.bytes ∙ length_over w.area.now w.used (line c) w.written.0 first.fits

module _ {text : List ℕ} {r : Result (Unit {0}) Stop} {w v : Writer} {z : State} (d : DroveScript writer_model w text r v z) where
  pub same_name : v.area.ghost_name ≡ w.area.ghost_name
  same_name = (chain_writer _ w v d.promise.taken.steps).name

  pub same_length : length v.area.now ≡ length w.area.now
  same_length = chain_length _ w v d.promise.taken.steps

  -- what the caller of a writer learns, with what it then puts behind the heading
  module _ (work before : List ℕ) (new : NewWriter work w) where
    -- over an area of 60,000 bytes the heading is short, since fewer lines are written than there are bytes
    module _ (size : length work ≡ 60000) where
      pub lines_fit : v.used ≤ 60000
      lines_fit = omega (arith, v.written.0, same_length, ap length new.bytes, size)

      pub front_short : (top count : ℕ) → top < 10000 → count ≡ v.taken → length (heading top count) ≤ 17
      front_short top count h e = heading-short top count h (omega (arith, e, v.written.2, lines_fit))

    exactly : z.begun ≡ true → ((α : Assignment) × (sat_all α (clauses d.script) ≡ true)) ↔ Possible z
    exactly = possible_is writer_model w v d.script.calls d.script.answers z d.promise

    filed : (after : List ℕ) (a : Result ℕ Stop) → Made r (highest z) (clauses d.script) before after a → Filed work text before after a
    filed after a made = record { result = r; state = z; start = w; end = v; new = new; drove = d; made = made; exact = exactly }

    pub refused : (stop : Stop) (a : Result ℕ Stop) → r ≡ Err stop → a ≡ Err stop → Filed work text before before a
    refused stop a e is = filed before a (subst (λ x. Made x (highest z) (clauses d.script) before before a) (sym e) (is, refl))

    module _ (top count h n : ℕ) (middle after lines : List ℕ) where
      text_is : take v.used v.area.now ≡ flat_map line (clauses d.script)
      text_is =
          let holds = chain_writer (clauses d.script) w v d.promise.taken.steps in
          let bytes : v.area.now ≡ over work 0 (flat_map line (clauses d.script)) = holds.area ∙ ap (λ k. over w.area.now k (flat_map line (clauses d.script))) new.unused ∙ ap (λ s. over s 0 (flat_map line (clauses d.script))) new.bytes in
          ap (take v.used) bytes ∙ take-over work 0 (flat_map line (clauses d.script)) (omega arith) v.used (omega (arith, holds.used, new.unused))

      stands : top ≡ highest z → count ≡ v.taken → middle ≡ over before 0 (heading top count) → h ≡ length (heading top count) → lines ≡ take v.used v.area.now → after ≡ over middle h lines → n ≡ h + length lines → FileStands (highest z) (clauses d.script) before after n
      stands tops counts front long text end size =
          let counted : count ≡ length (clauses d.script) = omega (arith, counts, d.promise.taken.counted, new.no_clause) in
          let head : heading top count ≡ heading (highest z) (length (clauses d.script)) = ap (λ x. heading x count) tops ∙ ap (heading (highest z)) counted in
          let whole : heading top count ++ lines ≡ file (highest z) (clauses d.script) = ap (λ x. x ++ lines) head ∙ ap (λ x. heading (highest z) (length (clauses d.script)) ++ x) (text ∙ text_is) in
          let bytes : after ≡ over before 0 (file (highest z) (clauses d.script)) = over_next before middle after 0 h (heading top count) lines (omega arith) front (omega arith) end ∙ ap (over before 0) whole in
          let sized : n ≡ length (file (highest z) (clauses d.script)) = omega (arith, size, long, length-append (heading top count) lines, ap length whole) in
          record {
            bytes = bytes;
            size = sized;
            reads = ap (λ x. read (drop (length (heading (highest z) (length (clauses d.script)))) x)) (ap (take n) bytes ∙ take-over before 0 (file (highest z) (clauses d.script)) (omega arith) n (omega arith))
                ∙ ap read (drop_at (heading (highest z) (length (clauses d.script))) (flat_map line (clauses d.script)) _ refl)
                ∙ read-lines (clauses d.script) (chain_writer (clauses d.script) w v d.promise.taken.steps).ranged;
          }

      pub accepted : r ≡ Ok tt → top ≡ highest z → count ≡ v.taken → middle ≡ over before 0 (heading top count) → h ≡ length (heading top count) → lines ≡ take v.used v.area.now → after ≡ over middle h lines → n ≡ h + length lines → Filed work text before after (Ok n)
      accepted e tops counts front long text end size =
          filed after (Ok n) (subst (λ x. Made x (highest z) (clauses d.script) before after (Ok n)) (sym e) (n, refl, stands tops counts front long text end size))
