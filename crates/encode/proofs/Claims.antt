-- The claims behind a guard, cut where the code cuts them.
use Rattle.std.proofs.Common.{◌≡◌, List, [], ◌∷◌, ◌++◌, map, Some, None, Option, sym, refl, ap, ◌∙◌, map-id}
use mathlib.Core.List.{map-map, map-append}
use Rattle.cnf.specs.declared.clause.Literal.{Literal}
use Rattle.cnf.specs.Clauses.{Clauses, opposite}
use Rattle.mtl.specs.Shapes.{any, all}
use Rattle.bounded.specs.declared.bounded.Bounded.{Bounded}
use Rattle.bounded.specs.Items.{items}
use Rattle.encode.specs.declared.part.Claim.{Claim}
use Rattle.encode.specs.declared.part.Claim.TheVariants as claim
use Rattle.encode.specs.Parts.{behind, under, claimed}

pub under-behind : (g : Option Literal) (cs : Clauses) → under g cs ≡ map (behind g) cs
under-behind None cs = sym (map-id cs)
under-behind (Some l) cs = refl

module _ (g : Option Literal) (x y : Literal) (gs hs : List Literal) (e : y ≡ opposite x) (f : hs ≡ map opposite gs) where
  pub any_cut : map (behind g) (any x gs) ≡ (behind g (y ∷ gs) ∷ []) ++ map (λ z. behind g (x ∷ z ∷ [])) hs
  any_cut =
      rw (e, f)
      (ap (λ l. behind g (opposite x ∷ gs) ∷ l)
      (map-map (behind g) (λ z. x ∷ opposite z ∷ []) gs ∙ sym (map-map (λ z. behind g (x ∷ z ∷ [])) opposite gs)))

  pub all_cut : map (behind g) (all x gs) ≡ map (λ z. behind g (y ∷ z ∷ [])) gs ++ (behind g (x ∷ hs) ∷ [])
  all_cut =
      rw (e, f)
      (map-append (behind g) (map (λ z. opposite x ∷ z ∷ []) gs) ((x ∷ map opposite gs) ∷ [])
      ∙ ap (λ l. l ++ (behind g (x ∷ map opposite gs) ∷ [])) (map-map (behind g) (λ z. opposite x ∷ z ∷ []) gs))

module _ (l : List Literal) (gs : Bounded Literal 32) (e : l ≡ items gs) (g : Option Literal) (c : Claim) (x : Literal) where
  pub any_held : c ≡ claim.Any x gs → under g (claimed c) ≡ map (behind g) (any x l)
  any_held is = rw (is, e) (under-behind g (any x (items gs)))

  pub all_held : c ≡ claim.All x gs → under g (claimed c) ≡ map (behind g) (all x l)
  all_held is = rw (is, e) (under-behind g (all x (items gs)))
