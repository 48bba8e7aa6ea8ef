-- Laws of writing over an area, and how long a line is.
use Rattle.std.proofs.Common.{◌≡◌, ℕ, zero, suc, ◌+◌, ◌*◌, ◌/◌, ◌^◌, ◌<◌, ◌≤◌, Bool, true, false, leb, List, [], ◌∷◌, ◌++◌, length, get_or, take, drop, set, decimal, sym, ap, ◌∙◌, append_assoc, add-zero, add-one, arith, length-append, length-drop, rules}
use Rattle.std.proofs.lemmas.List.{take_at, drop_at, drop-drop, set_split, length-take-le, take-append-drop, take_more}
use Rattle.std.proofs.lemmas.Bool.{and_parts, leb-true}
use Rattle.std.proofs.lemmas.Fmt.{length-decimal-le, decimal_nonempty, first_decimal, digits_decimal, digits_value-decimal, decimal-digits_value, decimal_digit, decimal_step}
use Rattle.std.proofs.lemmas.Str.Parse.{IsNumeralModel, numerals_by_fold}
use Rattle.std.specs.List.{flat_map}
use Rattle.std.specs.Str.{all_ascii_digits}
use Rattle.cnf.specs.declared.clause.Literal.{Literal}
use Rattle.cnf.specs.Clauses.{Clause, within, in_range}
use Rattle.sinks.specs.Lines.{said, Numeral, WroteNumeral, sign, literal_text, line, pair_line, over}
use Rattle.sinks.proofs.Reading.{joined-append, joined_push}

module _ (s : List ℕ) (a : ℕ) (xs : List ℕ) (h : a ≤ length s) where
  front_length : length (take a s ++ xs) ≡ a + length xs
  front_length = length-append (take a s) xs ∙ ap (λ m. m + length xs) (length-take-le a s h)

  pub take-over : (n : ℕ) → n ≡ a + length xs → take n (over s a xs) ≡ take a s ++ xs
  take-over n e = ap (take n) (sym (append_assoc (take a s) xs (drop (a + length xs) s))) ∙ take_at (take a s ++ xs) (drop (a + length xs) s) n (front_length ∙ sym e)

  drop-over : drop (a + length xs) (over s a xs) ≡ drop (a + length xs) s
  drop-over = ap (drop (a + length xs)) (sym (append_assoc (take a s) xs (drop (a + length xs) s))) ∙ drop_at (take a s ++ xs) (drop (a + length xs) s) (a + length xs) front_length

  over-over : (ys : List ℕ) (b : ℕ) → b ≡ a + length xs → over (over s a xs) b ys ≡ over s a (xs ++ ys)
  over-over ys b e =
      let back : drop (b + length ys) (over s a xs) ≡ drop (a + length (xs ++ ys)) s =
      ap (λ m. drop (m + length ys) (over s a xs)) e ∙ sym (drop-drop (length ys) (a + length xs) (over s a xs)) ∙ ap (drop (length ys)) drop-over ∙ drop-drop (length ys) (a + length xs) s ∙ ap (λ m. drop m s) (omega (arith, length-append xs ys)) in
      ap (λ p. p ++ (ys ++ drop (b + length ys) (over s a xs))) (take-over b e)
      ∙ ap (λ d. (take a s ++ xs) ++ (ys ++ d)) back
      ∙ append_assoc (take a s) xs _
      ∙ ap (λ d. take a s ++ d) (sym (append_assoc xs ys _))

  pub length_over : a + length xs ≤ length s → length (over s a xs) ≡ length s
  length_over k = simp (length-append, length-drop) (omega (arith, length-take-le a s h))

pub over_none : (s : List ℕ) (a : ℕ) → over s a [] ≡ s
over_none s a = ap (λ m. take a s ++ drop m s) (add-zero a) ∙ take-append-drop a s

pub over-set : (s : List ℕ) (a b : ℕ) → a < length s → set s a b ≡ over s a (b ∷ [])
over-set s a b h = set_split s a b h ∙ ap (λ m. take a s ++ (b ∷ drop m s)) (sym (add-one a))

-- two writes, one after the other
pub over_next : (s s₁ s₂ : List ℕ) (a b : ℕ) (xs ys : List ℕ) → a ≤ length s → s₁ ≡ over s a xs → b ≡ a + length xs → s₂ ≡ over s₁ b ys → s₂ ≡ over s a (xs ++ ys)
over_next s s₁ s₂ a b xs ys h e₁ e e₂ = e₂ ∙ ap (λ u. over u b ys) e₁ ∙ over-over s a xs h ys b e

-- a write that leaves what stands before and behind it
pub over_split : (s t xs : List ℕ) (a b e : ℕ) → b ≡ a → e ≡ a + length xs → drop b t ≡ xs ++ drop e s → take b t ≡ take b s → t ≡ over s a xs
over_split s t xs a b e p q w f =
    sym (take-append-drop b t)
    ∙ ap (λ u. u ++ drop b t) f
    ∙ ap (λ u. take b s ++ u) w
    ∙ ap (λ m. take b s ++ (xs ++ drop m s)) q
    ∙ ap (λ m. take m s ++ (xs ++ drop (a + length xs) s)) p

-- the digits of a number are those that `decimal` gives
own : IsNumeralModel (λ ds. all_ascii_digits ds ≡ true) (said 0)
own = numerals_by_fold _ (search rules) said (search rules)

pub numeral_is : (n : ℕ) (ds : List ℕ) → n < 2 ^ 64 → Numeral n ds → ds ≡ decimal n
numeral_is n ds h r = sym (decimal-digits_value own ds r.digits r.some r.plain (omega (arith, r.value))) ∙ ap decimal r.value

leading : (n : ℕ) → n < 2 ^ 64 → get_or (decimal n) 0 0 ≡ 48 → length (decimal n) ≡ 1
leading zero h e = ap length (decimal_digit 0 (omega arith))
leading (suc n) h e = let f = first_decimal (suc n) (omega arith) h in let z : ⊥ = omega arith in absurd z

pub wrote_numeral : (n a : ℕ) (s t : List ℕ) (e : ℕ) → n < 2 ^ 64 → t ≡ over s a (decimal n) → e ≡ a + length (decimal n) → WroteNumeral n a s t e
wrote_numeral n a s t e h p q = record {
  ds = decimal n;
  numeral = record { digits = digits_decimal own n h; some = decimal_nonempty n h; plain = leading n h; value = digits_value-decimal own n h };
  area = p;
  end = q;
}

module _ {n a e : ℕ} {s t : List ℕ} (h : n < 2 ^ 64) (w : WroteNumeral n a s t e) where
  pub numeral_area : t ≡ over s a (decimal n)
  numeral_area = w.area ∙ ap (over s a) (numeral_is n w.ds h w.numeral)

  pub numeral_end : e ≡ a + length (decimal n)
  numeral_end = w.end ∙ ap (λ ds. a + length ds) (numeral_is n w.ds h w.numeral)

pub decimal_longer : (n : ℕ) → 10 ≤ n → n < 2 ^ 64 → length (decimal n) ≡ length (decimal (n / 10)) + 1
decimal_longer n h k = ap length (decimal_step n h k) ∙ length-append (decimal (n / 10)) _

-- how long a line is
pub literal_long : (l : Literal) → length (literal_text l) ≡ length (sign l.positive) + (length (decimal l.variable) + 1)
literal_long l = length-append (sign l.positive) _ ∙ ap (λ n. length (sign l.positive) + n) (length-append (decimal l.variable) _)

sign-length : (b : Bool) → length (sign b) ≤ 1
sign-length true = omega arith
sign-length false = omega arith

literal_length : (l : Literal) → within 9999 l ≡ true → length (literal_text l) ≤ 6
literal_length l e =
    let ends = and_parts (leb 1 l.variable) (leb l.variable 9999) e in
    let small = leb-true l.variable 9999 ends.1 in
    let digits : length (decimal l.variable) ≤ 4 = length-decimal-le 4 l.variable (omega arith) (omega arith) (omega arith) in
    omega (arith, sign-length l.positive, literal_long l)

pub literals-length : (c : Clause) → in_range 9999 c ≡ true → length (flat_map literal_text c) ≤ 6 * length c
literals-length [] ok = omega arith
literals-length (l ∷ ls) ok =
    let both = and_parts (within 9999 l) (in_range 9999 ls) ok in
    omega (arith, length-append (literal_text l) (flat_map literal_text ls), literal_length l both.0, literals-length ls both.1)

pub line-length : (c : Clause) → length (line c) ≡ length (flat_map literal_text c) + 2
line-length c = length-append (flat_map literal_text c) _

pub pair_long : (word : List ℕ) (a b : ℕ) → length (pair_line word a b) ≡ length word + length (decimal a) + length (decimal b) + 2
pair_long word a b =
    omega (arith, length-append word (decimal a ++ (32 ∷ (decimal b ++ (10 ∷ [])))), length-append (decimal a) (32 ∷ (decimal b ++ (10 ∷ []))), length-append (decimal b) (10 ∷ []))

-- the texts of the literals, one literal more
module _ (c : Clause) (i : ℕ) (d : Literal) (h : i < length c) where
  pub texts_more : flat_map literal_text (take (i + 1) c) ≡ flat_map literal_text (take i c) ++ literal_text (get_or c i d)
  texts_more = ap (flat_map literal_text) (take_more c i d h) ∙ joined_push literal_text (take i c) (get_or c i d)

pub texts_part : (c : Clause) (n : ℕ) → length (flat_map literal_text (take n c)) ≤ length (flat_map literal_text c)
texts_part c n =
    let whole = ap (λ d. length (flat_map literal_text d)) (sym (take-append-drop n c)) ∙ ap length (joined-append literal_text (take n c) (drop n c)) ∙ length-append (flat_map literal_text (take n c)) (flat_map literal_text (drop n c)) in
    omega arith
