-- Laws of numbers cut at 10,000.
use Rattle.std.proofs.Common.{◌≡◌, ℕ, ◌+◌, ◌-◌, ◌*◌, ◌<◌, min, Bool, true, false, cond, List, [], ◌∷◌, Some, None, refl, ap, ◌∙◌, arith}
use Rattle.std.proofs.lemmas.Bool.{cond-true, and_from, le-leb}
use Rattle.answers.specs.Words.{digit, tens}
use Rattle.answers.specs.Cap.{capped}

-- a cut on the way changes nothing
pub tens_cap : (cs : List ℕ) (m n : ℕ) → min m 10000 ≡ min n 10000 → capped (tens cs m) ≡ capped (tens cs n)
tens_cap [] m n e = ap Some e
tens_cap (c ∷ cs) m n e = at (digit c) (tens_cap cs (10 * m + (c - 48)) (10 * n + (c - 48)) (omega arith))
  where
    at : (b : Bool) → capped (tens cs (10 * m + (c - 48))) ≡ capped (tens cs (10 * n + (c - 48))) → capped (cond b (tens cs (10 * m + (c - 48))) None) ≡ capped (cond b (tens cs (10 * n + (c - 48))) None)
    at true h = h
    at false h = refl

-- c is the digit d
pub tens-digit : (c : ℕ) (cs : List ℕ) (n d m : ℕ) → 48 + d ≡ c → d < 10 → m ≡ min (10 * n + d) 10000 → capped (tens (c ∷ cs) n) ≡ capped (tens cs m)
tens-digit c cs n d m e l f =
    ap capped (cond-true (digit c) (tens cs (10 * n + (c - 48))) None (and_from _ _ (le-leb 48 c (omega arith)) (le-leb c 57 (omega arith))))
    ∙ tens_cap cs (10 * n + (c - 48)) m (omega arith)
