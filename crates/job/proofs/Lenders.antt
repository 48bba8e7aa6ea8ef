-- A list of calls over a sink that is seen through a function of its value.
use Rattle.std.proofs.Common.{◌≡◌, List, sym, ◌∙◌, subst, MutBor}
use Rattle.cnf.specs.Clauses.{Clause}
use Rattle.cnf.specs.Sinks.{Model}
use Rattle.cnf.specs.Layers.{lent_model, switch_model}
use Rattle.cnf.specs.declared.switch.Switch.{Switch}
use Rattle.calls.specs.declared.Call.{Call}
use Rattle.job.specs.declared.call.Exchange.{Exchange}
use Rattle.job.specs.Calls.{State, Answer, answer_to}
use Rattle.job.specs.Runs.{Ran, none, more}
use Rattle.job.specs.Drives.{Drove}
use Rattle.job.proofs.RunLaws.{promised}
use Rattle.job.proofs.Views.{View, lent_view, below_by, switch_view, taken_view, chain_keeps}

module _ {S' S : Type 0} {m' : Model S'} {m : Model S} {f : S' → S} (v : View m' m f) where
  pub answer_view : (k : S') (s : State) (c : Call) → answer_to m' k s c ≡ answer_to m (f k) s c
  answer_view k s c = simp (v.longest k, v.highest k, v.cells k)

  pub ran_view : {k k' : S'} {s s' : State} {cs : List Call} {rs : List Answer} → Ran m' k s cs rs k' s' → Ran m (f k) s cs rs (f k') s'
  ran_view none = none
  ran_view (more {k} {k'} {s = s} {c = c} move rest) =
      more (record { answer = move.answer ∙ answer_view k s c; knows = move.knows; taken = taken_view v _ k k' move.taken }) (ran_view rest)

  pub drove_view : (s t : S') (xs ys : List Exchange) (z : State) → Drove m' s xs ys t z → Drove m (f s) xs ys (f t) z
  drove_view s t xs ys z d = record {
    answers = d.answers;
    told = d.told;
    promise = promised m (f s) (f t) _ d.answers z (ran_view d.promise.ran);
  }

pub drove_keeps : {S X : Type 0} (m : Model S) (key : S → X) → ((s : S) (c : Clause) (t : S) → m.takes s c t → key t ≡ key s) → (s t : S) (xs ys : List Exchange) (z : State) → Drove m s xs ys t z → key t ≡ key s
drove_keeps m key law s t xs ys z d = chain_keeps m key law _ s t d.promise.taken.steps

-- the owner of a lent sink, whose sink after is the lent one if the names are one
pub lent_drove : {S : Type 0} (m : Model S) (s t : MutBor S) (xs ys : List Exchange) (z : State) → Drove (lent_model m) s xs ys t z → (after : S) → (s.ghost_name ≡ t.ghost_name → after ≡ t.now) → Drove m s.now xs ys after z
lent_drove m s t xs ys z d after tie =
    subst (λ u. Drove m s.now xs ys u z) (sym (tie (sym (drove_keeps (lent_model m) (λ x. x.ghost_name) (λ _ _ _ h. h.1) s t xs ys z d)))) (drove_view (lent_view m) s t xs ys z d)

-- the same where the lent sink stands below a switch
pub switched_drove : {S : Type 0} (m : Model S) (s t : Switch (MutBor S)) (xs ys : List Exchange) (z : State) → Drove (switch_model (lent_model m)) s xs ys t z → (after : S) → (s.below.ghost_name ≡ t.below.ghost_name → after ≡ t.below.now) → Drove (switch_model m) (record { below = s.below.now; variable = s.variable }) xs ys (record { below = after; variable = s.variable }) z
switched_drove m s t xs ys z d after tie =
    let same = drove_keeps (switch_model (lent_model m)) (λ u. u.below.ghost_name) (λ _ _ _ h. h.0.1) s t xs ys z d in
    let var = drove_keeps (switch_model (lent_model m)) (λ u. u.variable) (λ _ _ _ h. h.1) s t xs ys z d in
    subst (λ u. Drove (switch_model m) (below_by (λ x. x.now) s) xs ys (record { below = u; variable = s.variable }) z) (sym (tie (sym same)))
    (subst (λ n. Drove (switch_model m) (below_by (λ x. x.now) s) xs ys (record { below = t.below.now; variable = n }) z) var (drove_view (switch_view (lent_view m)) s t xs ys z d))

-- the same where it stands below two switches
pub piled_drove : {S : Type 0} (m : Model S) (s t : Switch (Switch (MutBor S))) (xs ys : List Exchange) (z : State) → Drove (switch_model (switch_model (lent_model m))) s xs ys t z → (after : S) → (s.below.below.ghost_name ≡ t.below.below.ghost_name → after ≡ t.below.below.now) → Drove (switch_model (switch_model m)) (record { below = record { below = s.below.below.now; variable = s.below.variable }; variable = s.variable }) xs ys (record { below = record { below = after; variable = s.below.variable }; variable = s.variable }) z
piled_drove m s t xs ys z d after tie =
    let same = drove_keeps (switch_model (switch_model (lent_model m))) (λ u. u.below.below.ghost_name) (λ _ _ _ h. h.0.0.1) s t xs ys z d in
    let inner = drove_keeps (switch_model (switch_model (lent_model m))) (λ u. u.below.variable) (λ _ _ _ h. h.0.1) s t xs ys z d in
    let outer = drove_keeps (switch_model (switch_model (lent_model m))) (λ u. u.variable) (λ _ _ _ h. h.1) s t xs ys z d in
    subst (λ u. Drove (switch_model (switch_model m)) (below_by (below_by (λ x. x.now)) s) xs ys (record { below = record { below = u; variable = s.below.variable }; variable = s.variable }) z) (sym (tie (sym same)))
    (subst (λ v. Drove (switch_model (switch_model m)) (below_by (below_by (λ x. x.now)) s) xs ys (record { below = record { below = t.below.below.now; variable = v }; variable = s.variable }) z) inner
    (subst (λ v. Drove (switch_model (switch_model m)) (below_by (below_by (λ x. x.now)) s) xs ys (record { below = record { below = t.below.below.now; variable = t.below.variable }; variable = v }) z) outer (drove_view (switch_view (switch_view (lent_view m))) s t xs ys z d)))
