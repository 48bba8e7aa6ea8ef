-- One of several values.
use Rattle.std.proofs.Common.{◌≡◌, ℕ, zero, suc, ◌+◌, ◌<◌, ◌≤◌, Bool, true, false, ◌⊎◌, Decides, sym, refl, inl, inr, ⊎_elim, arith}
use Rattle.std.proofs.lemmas.Bool.{or_cases, or_left, or_right, cases_Bool, cases_order, true≢false}
use Rattle.mtl.proofs.Shapes.{some}

pub some_true : (f : ℕ → Bool) (i n : ℕ) → some f i n ≡ true → (j : ℕ) × (i ≤ j) × (j < i + n) × (f j ≡ true)
some_true f i zero e = absurd (true≢false (sym e))
some_true f i (suc n) e = ⊎_elim here (λ h. there (some_true f (suc i) n h)) (or_cases (f i) (some f (suc i) n) e)
  where
    here : f i ≡ true → (j : ℕ) × (i ≤ j) × (j < i + suc n) × (f j ≡ true)
    here h = (i, omega arith, omega arith, h)

    there : ((j : ℕ) × (suc i ≤ j) × (j < suc i + n) × (f j ≡ true)) → (j : ℕ) × (i ≤ j) × (j < i + suc n) × (f j ≡ true)
    there h = (h.0, omega arith, omega arith, h.3)

pub some_from : (f : ℕ → Bool) (i n j : ℕ) → i ≤ j → j < i + n → f j ≡ true → some f i n ≡ true
some_from f i zero j h c e = absurd (omega arith)
some_from f i (suc n) j h c e =
    ⊎_elim (λ g. or_left (f i) (some f (suc i) n) (rw g e))
    (λ g. ⊎_elim (λ a. or_right (f i) (some f (suc i) n) (some_from f (suc i) n j a (omega arith) e)) (λ a. absurd (omega arith)) g)
    (cases_order i j)

pub some_decides : (f : ℕ → Bool) (i n : ℕ) → Decides (some f i n) ((j : ℕ) × (i ≤ j) × (j < i + n) × (f j ≡ true))
some_decides f i n = (some_true f i n, λ h. some_from f i n h.0 h.1 h.2 h.3)

-- only the values that are looked at count
pub some_like : (f g : ℕ → Bool) (n i j : ℕ) → ((d : ℕ) → d < n → f (i + d) ≡ g (j + d)) → some f i n ≡ some g j n
some_like f g zero i j h = refl
some_like f g (suc n) i j h =
    let z : f i ≡ g j = first in
    let r = some_like f g n (suc i) (suc j) (λ d l. step d l) in cc
  where
    first : f i ≡ g j
    first = let e : i + 0 ≡ i = omega arith in let e' : j + 0 ≡ j = omega arith in rw (e, e') at (h 0 (omega arith))

    step : (d : ℕ) → d < n → f (suc i + d) ≡ g (suc j + d)
    step d l = let e : suc i + d ≡ i + suc d = omega arith in let e' : suc j + d ≡ j + suc d = omega arith in rw (e, e') (h (suc d) (omega arith))

-- a place from i to j - 1, or none
pub scan : (f : ℕ → Bool) (i j : ℕ) → ((m : ℕ) × (i ≤ m) × (m < j) × (f m ≡ true)) ⊎ ((m : ℕ) → i ≤ m → m < j → f m ≡ false)
scan f i zero = inr (λ m h c. absurd (omega arith))
scan f i (suc j) = ⊎_elim (λ h. inl (h.0, h.1, omega arith, h.3)) more (scan f i j)
  where
    more : ((m : ℕ) → i ≤ m → m < j → f m ≡ false) → ((m : ℕ) × (i ≤ m) × (m < suc j) × (f m ≡ true)) ⊎ ((m : ℕ) → i ≤ m → m < suc j → f m ≡ false)
    more h = ⊎_elim (λ (c : i ≤ j). ⊎_elim (λ t. inl (j, c, omega arith, t)) (λ t. inr (last t)) (cases_Bool (f j))) (λ (c : j < i). inr (λ m a b. absurd (omega arith))) (order i j)
      where
        last : f j ≡ false → (m : ℕ) → i ≤ m → m < suc j → f m ≡ false
        last t m a b = ⊎_elim (λ e. rw e t) (λ g. ⊎_elim (λ l. h m a l) (λ l. absurd (omega arith)) g) (cases_order m j)

        order : (i j : ℕ) → (i ≤ j) ⊎ (j < i)
        order i j = ⊎_elim (λ e. inl (omega arith)) (λ g. ⊎_elim (λ l. inl (omega arith)) (λ l. inr l) g) (cases_order i j)
