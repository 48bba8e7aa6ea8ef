-- A sink that is seen through a function of its value.
use Rattle.std.proofs.Common.{◌≡◌, ◌+◌, ◌/◌, ◌&&◌, [], ◌∷◌, length, sym, refl, ap, ◌∙◌, arith}
use Rattle.cnf.specs.Clauses.{Assignment, Clause, Clauses, negated, sat_all}
use Rattle.cnf.specs.Sinks.{Model}
use Rattle.cnf.specs.Layers.{lent_model, switch_model, switch_longest, usable}
use Rattle.cnf.specs.declared.switch.Switch.{Switch}
use Rattle.job.specs.Feeding.{Chain, TakenAll}

-- a sink of the kind m' means what its view by f means as a sink of the kind m
pub record View {S' S : Type 0} (m' : Model S') (m : Model S) (f : S' → S) : Type 0 where
  pub longest : (s : S') → m'.longest s ≡ m.longest (f s)
  pub highest : (s : S') → m'.highest s ≡ m.highest (f s)
  pub cells : (s : S') → m'.cells s ≡ m.cells (f s)
  pub count : (s : S') → m'.count s ≡ m.count (f s)
  pub gives : (s : S') (α : Assignment) → m'.gives s α ≡ m.gives (f s) α
  pub inside : (s : S') (α : Assignment) → m'.inside s α ≡ m.inside (f s) α
  pub watched : (s : S') (α : Assignment) → m'.watched s α → m.watched (f s) α
  pub watched_back : (s : S') (α : Assignment) → m.watched (f s) α → m'.watched s α
  pub takes : (s : S') (c : Clause) (t : S') → m'.takes s c t → m.takes (f s) c (f t)

pub lent_view : {S : Type 0} (m : Model S) → View (lent_model m) m (λ x. x.now)
lent_view m = record {
  longest = λ _. refl;
  highest = λ _. refl;
  cells = λ _. refl;
  count = λ _. refl;
  gives = λ _ _. refl;
  inside = λ _ _. refl;
  watched = λ _ _ w. w;
  watched_back = λ _ _ w. w;
  takes = λ _ _ _ h. h.0;
}

abbrev pub below_by : {S' S : Type 0} → (S' → S) → Switch S' → Switch S
below_by f s = record { below = f s.below; variable = s.variable }

module _ {S' S : Type 0} {m' : Model S'} {m : Model S} {f : S' → S} (v : View m' m f) where
  pub switch_view : View (switch_model m') (switch_model m) (below_by f)
  switch_view = record {
    longest = λ s. ap (λ h. switch_longest s.variable h (m'.longest s.below)) (v.highest s.below) ∙ ap (switch_longest s.variable (m.highest (f s.below))) (v.longest s.below);
    highest = λ s. v.highest s.below;
    cells = λ s. ap (λ n. n / 2) (v.cells s.below);
    count = λ s. v.count s.below;
    gives = λ s α. v.gives s.below α;
    inside = λ s α. v.inside s.below α;
    watched = λ s α (w, u, g). (v.watched s.below α w, ap (usable s.variable) (sym (v.highest s.below)) ∙ u, ap (λ β. β s.variable) (sym (v.gives s.below α)) ∙ g);
    watched_back = λ s α (w, u, g). (v.watched_back s.below α w, ap (usable s.variable) (v.highest s.below) ∙ u, ap (λ β. β s.variable) (v.gives s.below α) ∙ g);
    takes = λ s c t (h, e). (v.takes s.below (negated s.variable ∷ c) t.below h, e);
  }

  chain_view : (cs : Clauses) (s t : S') → Chain m'.takes cs s t → Chain m.takes cs (f s) (f t)
  chain_view [] s t e = ap f e
  chain_view (c ∷ cs) s t (u, first, rest) = (f u, v.takes s c u first, chain_view cs u t rest)

  pub taken_view : (cs : Clauses) (s t : S') → TakenAll m' cs s t → TakenAll m cs (f s) (f t)
  taken_view cs s t a = record {
    meaning = λ α w.
        sym (v.inside t α) ∙ a.meaning α (v.watched_back s α w) ∙ ap (λ b. b && sat_all (m'.gives s α) cs) (v.inside s α)
        ∙ ap (λ β. m.inside (f s) α && sat_all β cs) (v.gives s α);
    counted = sym (v.count t) ∙ a.counted ∙ ap (λ n. n + length cs) (v.count s);
    room = omega (arith, a.room, v.cells s, v.cells t);
    same_longest = sym (v.longest t) ∙ a.same_longest ∙ v.longest s;
    same_highest = sym (v.highest t) ∙ a.same_highest ∙ v.highest s;
    same_values = λ α. sym (v.gives t α) ∙ a.same_values α ∙ v.gives s α;
    still_watched = λ α w. v.watched t α (a.still_watched α (v.watched_back s α w));
    watched_before = λ α w. v.watched s α (a.watched_before α (v.watched_back t α w));
    steps = chain_view cs s t a.steps;
  }

-- what every clause keeps, a list of clauses keeps
pub chain_keeps : {S X : Type 0} (m : Model S) (key : S → X) → ((s : S) (c : Clause) (t : S) → m.takes s c t → key t ≡ key s) → (cs : Clauses) (s t : S) → Chain m.takes cs s t → key t ≡ key s
chain_keeps m key law [] s t e = ap key e
chain_keeps m key law (c ∷ cs) s t (u, first, rest) = chain_keeps m key law cs u t rest ∙ law s c u first
