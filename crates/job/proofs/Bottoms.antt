-- What a chain of clauses does to a writer and to a judge.
use Rattle.std.proofs.Common.{◌≡◌, ℕ, ◌+◌, Bool, true, false, cond, ◌↔◌, List, [], ◌∷◌, length, take, Some, None, Option, is_none, unwrap_or, sym, refl, ap, ◌∙◌, subst, arith, length-append}
use Rattle.std.proofs.lemmas.Bool.{eq-eqb, eqb-true, and_from}
use Rattle.std.specs.List.{flat_map}
use Rattle.cnf.specs.Clauses.{Assignment, Clauses, negated, sat, sat_all, in_range, all_in_range}
use Rattle.cnf.specs.Sinks.{Model}
use Rattle.cnf.specs.Layers.{switch_model}
use Rattle.cnf.specs.declared.switch.Switch.{Switch}
use Rattle.sinks.specs.declared.writer.Writer.{Writer}
use Rattle.sinks.specs.declared.judge.Judge.{Judge}
use Rattle.sinks.specs.Lines.{line, over, read, all_true}
use Rattle.sinks.specs.Models.{writer_model, judge_model, NewWriter, NewJudge, assigned, first_fault}
use Rattle.sinks.proofs.Over.{over_none, over_next, take-over}
use Rattle.sinks.proofs.Reading.{read-lines}
use Rattle.mtl.proofs.Witness.{satisfiable}
use Rattle.calls.specs.declared.Call.{Call}
use Rattle.job.specs.declared.call.Exchange.{Exchange}
use Rattle.job.specs.declared.bottom.Written.{Written}
use Rattle.job.specs.Calls.{State, Answer, fresh, highest}
use Rattle.job.specs.Drives.{calls_of, Drove}
use Rattle.job.specs.Feeding.{Chain}
use Rattle.job.specs.Runs.{written, Possible, Promise}
use Rattle.job.specs.Bottoms.{LinesStand, WroteRules, WrotePiled, JudgedRules, behind, first_false}
use Rattle.job.proofs.RunLaws.{lists, good_fresh, ran_good, ran_lists, begun_is}

-- what a writer that took the clauses holds
pub record Holds (cs : Clauses) (w v : Writer) : Type 0 where
  pub area : v.area.now ≡ over w.area.now w.used (flat_map line cs)
  pub used : v.used ≡ w.used + length (flat_map line cs)
  pub ranged : all_in_range 9999 cs ≡ true
  pub name : v.area.ghost_name ≡ w.area.ghost_name

pub chain_writer : (cs : Clauses) (w v : Writer) → Chain writer_model.takes cs w v → Holds cs w v
chain_writer [] w v e = record {
  area = ap (λ x. x.area.now) e ∙ sym (over_none w.area.now w.used);
  used = ap (λ x. x.used) e ∙ omega arith;
  ranged = refl;
  name = ap (λ x. x.area.ghost_name) e;
}
chain_writer (c ∷ cs) w v (u, first, rest) =
    let r = chain_writer cs u v rest in
    record {
      area = over_next w.area.now u.area.now v.area.now w.used u.used (line c) (flat_map line cs) w.written.0 first.bytes first.used r.area;
      used = omega (arith, r.used, first.used, length-append (line c) (flat_map line cs));
      ranged = and_from (in_range 9999 c) (all_in_range 9999 cs) first.ranged r.ranged;
      name = r.name ∙ first.same_area;
    }

-- from an empty writer over the area
pub lines_stand : (cs : Clauses) (before : List ℕ) (w v : Writer) (after : List ℕ) (n : ℕ) → NewWriter before w → Chain writer_model.takes cs w v → after ≡ v.area.now → n ≡ length (take v.used v.area.now) → LinesStand cs before after n
lines_stand cs before w v after n new h e f =
    let r = chain_writer cs w v h in
    let bytes : after ≡ over before 0 (flat_map line cs) = e ∙ r.area ∙ ap (λ k. over w.area.now k (flat_map line cs)) new.unused ∙ ap (λ s. over s 0 (flat_map line cs)) new.bytes in
    let text : take v.used v.area.now ≡ flat_map line cs = ap (take v.used) (sym e ∙ bytes) ∙ take-over before 0 (flat_map line cs) (omega arith) v.used (omega (arith, r.used, new.unused)) in
    let size : n ≡ length (flat_map line cs) = f ∙ ap length text in
    record {
      bytes = bytes;
      size = size;
      reads = ap read (ap (take n) bytes ∙ take-over before 0 (flat_map line cs) (omega arith) n (omega arith)) ∙ read-lines cs r.ranged;
    }

-- a chain through a switch, seen from below
pub chain_switch : {S : Type 0} (m : Model S) (v : ℕ) (cs : Clauses) (s t : Switch S) → s.variable ≡ v → Chain (switch_model m).takes cs s t → Chain m.takes (behind v cs) s.below t.below
chain_switch m v [] s t w e = ap (λ x. x.below) e
chain_switch m v (c ∷ cs) s t w (u, (first, same), rest) =
    let P : ℕ → Type 0 = λ n. m.takes s.below (negated n ∷ c) u.below in
    (u.below, subst P w first, chain_switch m v cs u t (same ∙ w) rest)

fault_step : (f : Option ℕ) (n : ℕ) (b : Bool) (r : ℕ) → unwrap_or (first_fault f n b) r ≡ unwrap_or f (cond b r n)
fault_step None n true r = refl
fault_step None n false r = refl
fault_step (Some m) n b r = refl

chain_fault : (cs : Clauses) (j k : Judge) → Chain judge_model.takes cs j k → unwrap_or k.fault 0 ≡ unwrap_or j.fault (first_false (assigned j.area.now) j.taken cs)
chain_fault [] j k e = ap (λ x. unwrap_or x.fault 0) e
chain_fault (c ∷ cs) j k (u, first, rest) =
    let f = first.fault ∙ ap (λ n. first_fault j.fault n (sat (assigned j.area.now) c)) first.taken in
    chain_fault cs u k rest
    ∙ ap (λ a. unwrap_or u.fault (first_false (assigned a) u.taken cs)) first.same_area
    ∙ ap (λ n. unwrap_or u.fault (first_false (assigned j.area.now) n cs)) first.taken
    ∙ ap (λ v. unwrap_or v (first_false (assigned j.area.now) (j.taken + 1) cs)) f
    ∙ fault_step j.fault (j.taken + 1) (sat (assigned j.area.now) c) (first_false (assigned j.area.now) (j.taken + 1) cs)

-- from a judge by the area that has taken no clause
pub judged_first : (cs : Clauses) (area : List ℕ) (j k : Judge) → NewJudge area j → Chain judge_model.takes cs j k → unwrap_or k.fault 0 ≡ first_false (assigned area) 0 cs
judged_first cs area j k new h =
    chain_fault cs j k h
    ∙ ap (λ x. unwrap_or x (first_false (assigned j.area.now) j.taken cs)) new.no_fault
    ∙ ap (λ n. first_false (assigned j.area.now) n cs) new.no_clause
    ∙ ap (λ s. first_false (assigned s) 0 cs) new.bytes

-- what was written says what the job knows
pub written_is : {S : Type 0} (m : Model S) (α : Assignment) (k k' : S) (cs : List Call) (rs : List Answer) (s : State) → Promise m k cs rs k' s → sat_all α (written fresh cs rs) ≡ sat_all α (lists s)
written_is m α k k' cs rs s p = sym (ran_lists m α p.ran good_fresh)

pub possible_is : {S : Type 0} (m : Model S) (k k' : S) (cs : List Call) (rs : List Answer) (s : State) → Promise m k cs rs k' s → s.begun ≡ true → ((α : Assignment) × (sat_all α (written fresh cs rs) ≡ true)) ↔ Possible s
possible_is m k k' cs rs s p b =
    let g = ran_good m p.ran good_fresh in
    let is = satisfiable s.bound s.rows s.kept g.lawful g.asked in (
      λ (α, e). is.0 (α, sym (ap (sat_all α) (begun_is s b)) ∙ sym (written_is m α k k' cs rs s p) ∙ e),
      λ run. let (α, e) = is.1 run in (α, written_is m α k k' cs rs s p ∙ ap (sat_all α) (begun_is s b) ∙ e),
    )

-- what the caller of a writer learns, whose area after is the writer's if the names are one
module _ (before : List ℕ) (xs ys : List Exchange) (w v : Writer) (z : State) (r : Written) (new : NewWriter before w) (after : List ℕ) (tie : w.area.ghost_name ≡ v.area.ghost_name → after ≡ v.area.now) where
  pub wrote_rules : Drove writer_model w xs ys v z → r.bytes ≡ length (take v.used v.area.now) → r.clauses ≡ v.taken → r.highest ≡ highest z → WroteRules before xs ys after r
  wrote_rules d bytes clauses top =
      let p = d.promise in
      let cs = written fresh (calls_of xs) d.answers in
      let same = (chain_writer (written fresh (calls_of xs) d.answers) w v p.taken.steps).name in
      let stand = lines_stand (written fresh (calls_of xs) d.answers) before w v after r.bytes new p.taken.steps (tie (sym same)) bytes in
      let is = possible_is writer_model w v (calls_of xs) d.answers z p in
      record {
        answers = d.answers;
        told = d.told;
        state = z;
        start = w;
        end = v;
        new = new;
        promise = p;
        lines = stand;
        count = clauses ∙ p.taken.counted ∙ omega (arith, new.no_clause);
        variables = top;
        exact = λ b. (
          λ (α, e). (is b).0 (α, sym (ap (all_true α) stand.reads) ∙ e),
          λ run. let (α, e) = (is b).1 run in (α, ap (all_true α) stand.reads ∙ e),
        );
      }

-- the same through two switches
module _ (f g : ℕ) (before : List ℕ) (xs ys : List Exchange) (w v : Writer) (z : State) (new : NewWriter before w) (after : List ℕ) (tie : w.area.ghost_name ≡ v.area.ghost_name → after ≡ v.area.now) where
  pub wrote_piled : (n : ℕ) → Drove (switch_model (switch_model writer_model)) (record { below = record { below = w; variable = f }; variable = g }) xs ys (record { below = record { below = v; variable = f }; variable = g }) z → n ≡ length (take v.used v.area.now) → WrotePiled f g before xs ys after n
  wrote_piled n d bytes =
      let cs = written fresh (calls_of xs) d.answers in
      let steps = chain_switch writer_model f (behind g (written fresh (calls_of xs) d.answers)) _ _ refl (chain_switch (switch_model writer_model) g (written fresh (calls_of xs) d.answers) _ _ refl d.promise.taken.steps) in
      let same = (chain_writer (behind f (behind g (written fresh (calls_of xs) d.answers))) w v steps).name in
      record {
        answers = d.answers;
        told = d.told;
        state = z;
        start = w;
        end = v;
        new = new;
        promise = d.promise;
        lines = lines_stand (behind f (behind g (written fresh (calls_of xs) d.answers))) before w v after n new steps (tie (sym same)) bytes;
      }

-- the judge: its assignment is in while it tells 0
pub judged_rules : (area : List ℕ) (xs ys : List Exchange) (j k : Judge) (z : State) (r : ℕ) → NewJudge area j → Drove judge_model j xs ys k z → r ≡ unwrap_or k.fault 0 → JudgedRules area xs ys r
judged_rules area xs ys j k z r new d told =
    let p = d.promise in
    let α = assigned area in
    let watched : judge_model.watched j (assigned area) = λ v _ _. ap (λ s. assigned s v) (sym new.bytes) in
    let is = p.inside (assigned area) watched in
    let in_first : judge_model.inside j (assigned area) ≡ true = ap is_none new.no_fault in
    record {
      answers = d.answers;
      told = d.told;
      state = z;
      start = j;
      end = k;
      new = new;
      promise = p;
      first = told ∙ judged_first (written fresh (calls_of xs) d.answers) area j k new p.taken.steps;
      exact = λ b. (
        λ e. (is.0 (k.numbered ∙ eq-eqb _ 0 (sym told ∙ e))).1 b,
        λ shown. told ∙ eqb-true _ 0 (sym k.numbered ∙ is.1 (in_first, λ _. shown)),
      );
    }
