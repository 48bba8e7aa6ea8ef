-- Trigger is what since is not, and release what until is not, over tests.
use Rattle.std.proofs.Common.{◌≡◌, ℕ, suc, Bool, true, false, not, Decides, inl, inr, ⊎_elim, arith}
use Rattle.std.proofs.lemmas.Bool.{cases_Bool, both_ways, not-true, not_from_false}
use Rattle.mtl.specs.Formula.{Since, Trigger, Until, Release}
use Rattle.mtl.proofs.Some.{scan}

module _ (a b : ℕ → Bool) (x : Bool) (i : ℕ) where
  pub trigger_dual : Decides x (Since (λ j. a j ≡ false) (λ j. b j ≡ false) i) → Decides (not x) (Trigger (λ j. a j ≡ true) (λ j. b j ≡ true) i)
  trigger_dual d = (to, from)
    where
      to : not x ≡ true → Trigger (λ j. a j ≡ true) (λ j. b j ≡ true) i
      to t j c = ⊎_elim (λ e. inl e) (λ e. ⊎_elim (λ h. inr (h.0, h.1, omega arith, h.3)) (λ h. absurd (both_ways x (not-true x t) (d.1 (j, c, e, λ m g n. h m g (omega arith))))) (scan a (suc j) (suc i))) (cases_Bool (b j))

      from : Trigger (λ j. a j ≡ true) (λ j. b j ≡ true) i → not x ≡ true
      from r = ⊎_elim (λ e. absurd (clash (d.0 e))) (λ e. not_from_false x e) (cases_Bool x)
        where
          clash : Since (λ j. a j ≡ false) (λ j. b j ≡ false) i → ⊥
          clash u = ⊎_elim (λ q. both_ways (b u.0) u.2 q) (λ h. both_ways (a h.0) (u.3 h.0 h.1 h.2) h.3) (r u.0 u.1)

  pub release_dual : Decides x (Until (λ j. a j ≡ false) (λ j. b j ≡ false) i) → Decides (not x) (Release (λ j. a j ≡ true) (λ j. b j ≡ true) i)
  release_dual d = (to, from)
    where
      to : not x ≡ true → Release (λ j. a j ≡ true) (λ j. b j ≡ true) i
      to t j c = ⊎_elim (λ e. inl e) (λ e. ⊎_elim (λ h. inr h) (λ h. absurd (both_ways x (not-true x t) (d.1 (j, c, e, h)))) (scan a i j)) (cases_Bool (b j))

      from : Release (λ j. a j ≡ true) (λ j. b j ≡ true) i → not x ≡ true
      from r = ⊎_elim (λ e. absurd (clash (d.0 e))) (λ e. not_from_false x e) (cases_Bool x)
        where
          clash : Until (λ j. a j ≡ false) (λ j. b j ≡ false) i → ⊥
          clash u = ⊎_elim (λ q. both_ways (b u.0) u.2 q) (λ h. both_ways (a h.0) (u.3 h.0 h.1 h.2) h.3) (r u.0 u.1)
