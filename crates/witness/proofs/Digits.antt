-- Letters, digit by digit.
use Rattle.std.proofs.Common.{◌≡◌, ℕ, zero, suc, ◌+◌, ◌-◌, ◌*◌, ◌/◌, ◌%◌, ◌^◌, ◌<◌, ◌≤◌, Bool, eqb, List, length, get_or, sym, ap, ◌∙◌, subst, ⊎_elim, mul_comm, pow-suc, arith}
use Rattle.std.proofs.lemmas.Bool.{eqb-true, eqb-false, cases_Bool, cases_order}
use Rattle.std.proofs.lemmas.Nat.{shr-shr}
use Rattle.std.proofs.lemmas.List.{same_lists, get_or_default}
use Rattle.evaluate.specs.Letters.{has}

pow_suc' : (n : ℕ) → 2 ^ suc n ≡ 2 * 2 ^ n
pow_suc' n = pow-suc 2 n ∙ mul_comm (2 ^ n) 2

-- one more digit below
module _ (y d : ℕ) (s : ℕ → Bool) (small : d < 2) where
  half : (2 * y + d) / 2 ≡ y
  half = omega arith

  digit_next : (n : ℕ) → (2 * y + d) / 2 ^ suc n ≡ y / 2 ^ n
  digit_next n =
      let e : suc n ≡ 1 + n = omega arith in
      ap (λ m. (2 * y + d) / 2 ^ m) e ∙ sym (shr-shr (2 * y + d) 1 n) ∙ ap (λ q. q / 2 ^ n) half

  pub digit_more : (a a' : ℕ) → a' ≡ a + 1 → a < 32 → eqb d 1 ≡ s a → y < 2 ^ (32 - a') → ((b : ℕ) → a' ≤ b → b < 32 → eqb (y / 2 ^ (b - a') % 2) 1 ≡ s b) → (2 * y + d < 2 ^ (32 - a)) × ((b : ℕ) → a ≤ b → b < 32 → eqb ((2 * y + d) / 2 ^ (b - a) % 2) 1 ≡ s b)
  digit_more a a' e h is low f = (bound, digits)
    where
      bound : 2 * y + d < 2 ^ (32 - a)
      bound =
          let z : 32 - a ≡ suc (32 - a') = omega arith in
          rw z (omega (arith, pow_suc' (32 - a')))

      digits : (b : ℕ) → a ≤ b → b < 32 → eqb ((2 * y + d) / 2 ^ (b - a) % 2) 1 ≡ s b
      digits b c g = ⊎_elim here (λ q. ⊎_elim there (λ q. absurd (omega arith)) q) (cases_order a b)
        where
          here : a ≡ b → eqb ((2 * y + d) / 2 ^ (b - a) % 2) 1 ≡ s b
          here q =
              let z : b - a ≡ 0 = omega arith in
              let w : (2 * y + d) / 1 % 2 ≡ d = omega arith in
              subst (λ n. eqb ((2 * y + d) / 2 ^ n % 2) 1 ≡ s b) (sym z) (ap (λ n. eqb n 1) w ∙ is ∙ ap s q)

          there : a < b → eqb ((2 * y + d) / 2 ^ (b - a) % 2) 1 ≡ s b
          there q =
              let z : b - a ≡ suc (b - a') = omega arith in
              subst (λ n. eqb ((2 * y + d) / 2 ^ n % 2) 1 ≡ s b) (sym z) (ap (λ n. eqb (n % 2) 1) (digit_next (b - a')) ∙ f b (omega arith) g)

-- numbers with the same digits
pub eqb_same : (x y : ℕ) → x < 2 → y < 2 → eqb x 1 ≡ eqb y 1 → x ≡ y
eqb_same x y h c e = ⊎_elim (λ t. eqb-true x 1 t ∙ sym (eqb-true y 1 (sym e ∙ t))) (λ t. let p = eqb-false x 1 t in let q = eqb-false y 1 (sym e ∙ t) in other x y h c p q) (cases_Bool (eqb x 1))
  where
    other : (x y : ℕ) → x < 2 → y < 2 → (x ≡ 1 → ⊥) → (y ≡ 1 → ⊥) → x ≡ y
    other x y h c p q = ⊎_elim (λ a. a) (λ g. ⊎_elim (λ a. absurd (q (omega arith))) (λ a. absurd (p (omega arith))) g) (cases_order x y)

pub same_digits : (n x y : ℕ) → x < 2 ^ n → y < 2 ^ n → ((a : ℕ) → a < n → eqb (x / 2 ^ a % 2) 1 ≡ eqb (y / 2 ^ a % 2) 1) → x ≡ y
same_digits zero x y h c f = omega arith
same_digits (suc n) x y h c f =
    let p = pow_suc' n in
    let r = same_digits n (x / 2) (y / 2) (omega arith) (omega arith) next in
    let q : x % 2 ≡ y % 2 = eqb_same (x % 2) (y % 2) (omega arith) (omega arith) low in
    omega arith
  where
    low : eqb (x % 2) 1 ≡ eqb (y % 2) 1
    low =
        let u : x / 1 % 2 ≡ x % 2 = omega arith in
        let v : y / 1 % 2 ≡ y % 2 = omega arith in
        sym (ap (λ z. eqb z 1) u) ∙ f 0 (omega arith) ∙ ap (λ z. eqb z 1) v

    next : (a : ℕ) → a < n → eqb (x / 2 / 2 ^ a % 2) 1 ≡ eqb (y / 2 / 2 ^ a % 2) 1
    next a d =
        let e : 1 + a ≡ suc a = omega arith in
        ap (λ z. eqb (z % 2) 1) (shr-shr x 1 a ∙ ap (λ m. x / 2 ^ m) e) ∙ f (suc a) (omega arith) ∙ sym (ap (λ z. eqb (z % 2) 1) (shr-shr y 1 a ∙ ap (λ m. y / 2 ^ m) e))

pub same_letters : (k : ℕ) (xs ys : List ℕ) → length xs ≡ k + 1 → length ys ≡ k + 1 → ((i : ℕ) → get_or xs i 0 < 2 ^ 32) → ((i : ℕ) → get_or ys i 0 < 2 ^ 32) → ((i a : ℕ) → i ≤ k → a < 32 → has xs i a ≡ has ys i a) → xs ≡ ys
same_letters k xs ys p q u v f = same_lists xs ys (p ∙ sym q) (λ i d h. at i d h)
  where
    at : (i d : ℕ) → i < length xs → get_or xs i d ≡ get_or ys i d
    at i d h = get_or_default xs i d 0 h ∙ same_digits 32 (get_or xs i 0) (get_or ys i 0) (u i) (v i) (λ a c. f i a (omega arith) c) ∙ sym (get_or_default ys i d 0 (omega arith))
