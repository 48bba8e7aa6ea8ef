-- What `any` and `all` answer over the numbers of a range.
use Rattle.std.proofs.Common.{◌≡◌, ℕ, ◌+◌, ◌-◌, ◌<◌, ◌≤◌, Bool, true, false, List, length, Decides, MatchBool, refl, subst, arith}
use Rattle.std.proofs.lemmas.Bool.{false≢true}
use Rattle.std.proofs.lemmas.Iterator.{YieldsList-from_range, cases_from_any, cases_from_all}
use Rattle.std.proofs.lemmas.List.FromFn.{length-range_with_len, get_or-range_with_len}
use Rattle.std.proofs.iter.Yields.{nat_range_steps}
use Rattle.std.specs.declared.ops.Range.{Range}
use Rattle.std.specs.Fn.{Called}
use Rattle.std.specs.Iterator.{YieldsThen}
use Rattle.std.specs.List.{FoldsTo, range_with_len, AllWithin, HoldsAt}
use Rattle.std.specs.Option.{MatchOption}
use denote.Param.Members.{Mut}

module _ (s : Range ℕ) where
  numbers : List ℕ
  numbers = range_with_len s.start (s.end - s.start)

  long : length numbers ≡ s.end - s.start
  unfolding numbers
  long = length-range_with_len s.start (s.end - s.start)

  at : (Q : ℕ → Type 0) (k : ℕ) → k < s.end - s.start → HoldsAt Q numbers k → Q (s.start + k)
  unfolding numbers
  at Q k c h = subst Q (get_or-range_with_len s.start (s.end - s.start) k 0 c) (h 0)

  each : (Q : ℕ → Type 0) → AllWithin Q numbers 0 (length numbers) → (j : ℕ) → s.start ≤ j → j < s.end → Q j
  each Q h j a b =
      let z : s.start + (j - s.start) ≡ j = omega arith in
      subst Q z (at Q (j - s.start) (omega arith) (λ d. h (j - s.start) d (omega arith) (omega (arith, long))))

  some_or_none : (P : ℕ → Type 0) (a e : ℕ) → s.start ≡ a → s.end ≡ e + 1 → (b : Bool) → MatchBool b ((k : ℕ) × (k < length numbers) × HoldsAt P numbers k) (AllWithin (λ j. P j → ⊥) numbers 0 (length numbers)) → Decides b ((j : ℕ) × (a ≤ j) × (j ≤ e) × P j)
  some_or_none P a e y z true h = ((λ _. (s.start + h.0, omega arith, omega (arith, long, h.1), at P h.0 (omega (arith, long, h.1)) h.2)), λ _. refl)
  some_or_none P a e y z false h = ((λ t. absurd (false≢true t)), λ p. absurd (each (λ j. P j → ⊥) h p.0 (omega (arith, p.1)) (omega (arith, p.2)) p.3))

  all_or_not : (P : ℕ → Type 0) (a e : ℕ) → s.start ≡ a → s.end ≡ e + 1 → (b : Bool) → MatchBool b (AllWithin P numbers 0 (length numbers)) ((k : ℕ) × (k < length numbers) × HoldsAt (λ j. P j → ⊥) numbers k) → Decides b ((j : ℕ) → a ≤ j → j ≤ e → P j)
  all_or_not P a e y z true h = ((λ _ j c d. each P h j (omega arith) (omega arith)), λ _. refl)
  all_or_not P a e y z false h = ((λ t. absurd (false≢true t)), λ p. absurd (at (λ j. P j → ⊥) h.0 (omega (arith, long, h.1)) h.2 (p (s.start + h.0) (omega arith) (omega (arith, long, h.1)))))

module _ {F : Type 0} {g : Mut F (ℕ × Unit {0}) Bool} (s u : Range ℕ) (f : F) (r : Bool) (P : ℕ → Type 0) where
  -- `any` decides whether some number of the range has P
  pub any_in_range :
      (xs : List ℕ) × (o : _) × (j : F) × YieldsThen nat_range_steps s xs o u × FoldsTo (λ p x q. Called g p (x, tt) false q) f xs j × MatchOption o (r ≡ false) (λ x. (r ≡ true) × ((h : F) × Called g j (x, tt) true h))
      → ((x : ℕ) (q : F) → Called g f (x, tt) true q → P x) → ((x : ℕ) (q : F) → Called g f (x, tt) false q → (q ≡ f) × (P x → ⊥))
      → (a e : ℕ) → s.start ≡ a → s.end ≡ e + 1 → Decides r ((j : ℕ) × (a ≤ j) × (j ≤ e) × P j)
  unfolding numbers
  any_in_range ran at_true at_false a e y z = some_or_none s P a e y z r (cases_from_any u f r P (λ j. P j → ⊥) ran (YieldsList-from_range s.start s.end (s.end - s.start) refl refl) at_true at_false)

  -- `all` decides whether each has
  pub all_in_range :
      (xs : List ℕ) × (o : _) × (j : F) × YieldsThen nat_range_steps s xs o u × FoldsTo (λ p x q. Called g p (x, tt) true q) f xs j × MatchOption o (r ≡ true) (λ x. (r ≡ false) × ((h : F) × Called g j (x, tt) false h))
      → ((x : ℕ) (q : F) → Called g f (x, tt) true q → (q ≡ f) × P x) → ((x : ℕ) (q : F) → Called g f (x, tt) false q → P x → ⊥)
      → (a e : ℕ) → s.start ≡ a → s.end ≡ e + 1 → Decides r ((j : ℕ) → a ≤ j → j ≤ e → P j)
  unfolding numbers
  all_in_range ran at_true at_false a e y z = all_or_not s P a e y z r (cases_from_all u f r P (λ j. P j → ⊥) ran (YieldsList-from_range s.start s.end (s.end - s.start) refl refl) at_true at_false)
