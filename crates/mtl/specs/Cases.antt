-- Worked cases. In each the newest row stands first.
use Rattle.std.specs.Prelude.{◌≡◌, ℕ, ◌≤◌, Bool, true, false, ◌↔◌, List, [], ◌∷◌, nat_le, slice_index_or}
use Rattle.cnf.specs.Clauses.{asserted, negated}
use Rattle.mtl.specs.declared.row.Row.TheVariants.{Signal, Next, Previous, Since}
use Rattle.mtl.specs.Formula.{Formula, Word, Sat, signal, after, until, within}
use Rattle.mtl.specs.Runs.{word, Settled}
use Rattle.mtl.specs.Tables.{job}

-- every signal is on at the instants that the list says
abbrev pub on_at : List Bool → Word
on_at bs i a = slice_index_or bs i false

pub record Cases : Type 0 where
  -- bound 0, signal 0, next of it, and next required to be true at 0
  pub six_clauses :
      job 0 (Next 0 ∷ Signal 0 ∷ []) (record { row = 1; instant = 0; value = true } ∷ [])
      ≡ (asserted 1 ∷ [])
      ∷ (negated 2 ∷ asserted 1 ∷ [])
      ∷ (asserted 2 ∷ negated 1 ∷ [])
      ∷ (negated 1 ∷ negated 4 ∷ asserted 3 ∷ [])
      ∷ (negated 1 ∷ asserted 4 ∷ negated 3 ∷ [])
      ∷ (asserted 4 ∷ [])
      ∷ []
  -- previous, with k and l 1: off, on is unsettled
  pub unsettled : Settled 1 1 (word 1 1 (on_at (false ∷ true ∷ []))) (Previous 0 ∷ Signal 0 ∷ []) → ⊥
  -- previous, with k and l 2: off, on, on is settled
  pub settled : Settled 2 2 (word 2 2 (on_at (false ∷ true ∷ true ∷ []))) (Previous 0 ∷ Signal 0 ∷ [])
  -- since, with k and l 0 and its second operand always true, is unsettled
  pub always : (w : Word) → ((i : ℕ) → w i 1 ≡ true) → Settled 0 0 w (Since 0 1 ∷ Signal 1 ∷ Signal 0 ∷ []) → ⊥
  -- within 0 is its operand
  pub at_once : (w : Word) (f : Formula) (i : ℕ) → Sat w (within f 0) i ↔ Sat w f i
  -- after 3 at instant 2, with k 2 and l 1, is its operand at 1
  pub around : (letters : Word) → Sat (word 2 1 letters) (after (signal 0) 3) 2 ↔ Sat (word 2 1 letters) (signal 0) 1
  -- until is false at k where its first operand is true all round the loop and its second never in it
  pub circling :
      (k l : ℕ) (letters : Word) → l ≤ k → ((i : ℕ) → l ≤ i → i ≤ k → letters i 0 ≡ true) → ((i : ℕ) → l ≤ i → i ≤ k → letters i 1 ≡ false)
      → Sat (word k l letters) (until (signal 0) (signal 1)) k → ⊥
  -- 31 is a bound and 32 is not
  pub highest : nat_le 31 31 ≡ true
  pub too_high : nat_le 32 31 ≡ false
