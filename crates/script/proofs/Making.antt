-- A script from the making of a job, over a sink that is owned or lent.
use Rattle.std.proofs.Common.{◌≡◌, ℕ, List, [], ◌∷◌, Ok, Err, Result, sym, refl, ap, ◌∙◌, subst, MutBor}
use Rattle.cnf.specs.Sinks.{Model}
use Rattle.cnf.specs.Layers.{lent_model}
use Rattle.calls.specs.declared.Call.{Call}
use Rattle.frames.specs.declared.refusals.Refusal.{Refusal as LineRefusal}
use Rattle.frames.specs.Script.{calling}
use Rattle.job.specs.declared.job.Job.{Job}
use Rattle.job.specs.Calls.{State, fresh}
use Rattle.job.specs.Steps.{known}
use Rattle.job.proofs.Lenders.{answer_view, ran_view}
use Rattle.job.proofs.RunLaws.{promised}
use Rattle.job.proofs.Views.{View, lent_view, chain_keeps}
use Rattle.script.specs.declared.refusal.Stop.{Stop}
use Rattle.script.specs.Scripts.{by_call, by_line, Ended, ScriptRan, DroveScript}

promised_script : {S : Type 0} (m : Model S) (k : S) (text : List ℕ) (r : Result (Unit {0}) Stop) (k' : S) (s : State) → ScriptRan m k fresh text r k' s → DroveScript m k text r k' s
promised_script m k text r k' s p = record { script = p; promise = promised m k k' p.calls p.answers s p.ran }

pub drove_script : {S : Type 0} (m : Model S) (s : S) (j k : Job S) (text : List ℕ) (r : Result (Unit {0}) Stop) → j.sink ≡ s → known j ≡ fresh → ScriptRan m j.sink (known j) text r k.sink (known k) → DroveScript m s text r k.sink (known k)
drove_script m s j k text r e f p =
    promised_script m s text r k.sink (known k)
    (subst (λ u. ScriptRan m u fresh text r k.sink (known k)) e (subst (λ z. ScriptRan m j.sink z text r k.sink (known k)) f p))

module _ {S' S : Type 0} {m' : Model S'} {m : Model S} {f : S' → S} (v : View m' m f) where
  line_view : (k : S') (s : State) (x : Result Call LineRefusal) → by_line m' k s x ≡ by_line m (f k) s x
  line_view k s (Ok c) = ap by_call (answer_view v k s c)
  line_view k s (Err e) = refl

  ended_view : (k : S') (s : State) (n : ℕ) (ls : List (List ℕ)) (r : Result (Unit {0}) Stop) → Ended m' k s n ls r → Ended m (f k) s n ls r
  ended_view k s n [] r e = e
  ended_view k s n (l ∷ ls) r (e, refused, is) = (e, sym (line_view k s (calling l)) ∙ refused, is)

  script_view : (k : S') (text : List ℕ) (r : Result (Unit {0}) Stop) (k' : S') (s : State) → DroveScript m' k text r k' s → DroveScript m (f k) text r (f k') s
  script_view k text r k' s d =
      let p = d.script in
      promised_script m (f k) text r (f k') s
      (record {
        calls = p.calls;
        answers = p.answers;
        accepted = p.accepted;
        rest = p.rest;
        made = p.made;
        reads = p.reads;
        ran = ran_view v p.ran;
        ended = ended_view k' s _ p.rest r p.ended;
      })

-- the owner of a lent sink, whose sink after is the lent one if the names are one
pub lent_script : {S : Type 0} (m : Model S) (s t : MutBor S) (text : List ℕ) (r : Result (Unit {0}) Stop) (z : State) → DroveScript (lent_model m) s text r t z → (after : S) → (s.ghost_name ≡ t.ghost_name → after ≡ t.now) → DroveScript m s.now text r after z
lent_script m s t text r z d after tie =
    let same = chain_keeps (lent_model m) (λ x. x.ghost_name) (λ _ _ _ h. h.1) _ s t d.promise.taken.steps in
    subst (λ u. DroveScript m s.now text r u z) (sym (tie (sym same))) (script_view (lent_view m) s text r t z d)
