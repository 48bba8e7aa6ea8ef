-- What a lent sink took, its owner's sink took.
use Rattle.std.proofs.Common.{◌≡◌, sym, subst, MutBor}
use Rattle.cnf.specs.Clauses.{Clauses}
use Rattle.cnf.specs.Sinks.{Model}
use Rattle.cnf.specs.Layers.{lent_model}
use Rattle.job.specs.Feeding.{TakenAll}
use Rattle.job.proofs.Views.{lent_view, taken_view, chain_keeps}

-- the owner, whose sink after is the lent one if the names are one
pub lent_told : {S : Type 0} (m : Model S) (cs : Clauses) (s t : MutBor S) → TakenAll (lent_model m) cs s t → (after : S) → (s.ghost_name ≡ t.ghost_name → after ≡ t.now) → TakenAll m cs s.now after
lent_told m cs s t a after tie =
    subst (λ u. TakenAll m cs s.now u) (sym (tie (sym (chain_keeps (lent_model m) (λ x. x.ghost_name) (λ _ _ _ h. h.1) cs s t a.steps)))) (taken_view (lent_view m) cs s t a)
