-- A text holds just the clauses whose lines it is made of.
use Rattle.std.proofs.Common.{◌≡◌, ℕ, ◌+◌, ◌-◌, ◌*◌, ◌/◌, ◌%◌, ◌^◌, ◌<◌, ◌≤◌, Bool, true, false, cond, ◌&&◌, eqb, leb, ◌⊎◌, List, [], ◌∷◌, ◌++◌, Some, None, decimal, Option, sym, refl, ap, ◌∙◌, inl, inr, ⊎_elim, append_assoc, arith}
use Rattle.std.proofs.lemmas.List.{append-nil}
use Rattle.std.proofs.lemmas.Bool.{ne_eqb, eqb-true, le-leb, leb-true, and_parts, and_from}
use Rattle.std.proofs.lemmas.Fmt.{decimal_by_steps, decimal_step, decimal_digit}
use Rattle.std.specs.List.{flat_map}
use Rattle.cnf.specs.declared.clause.Literal.{Literal}
use Rattle.cnf.specs.Clauses.{Clause, Clauses, within, in_range, all_in_range}
use Rattle.sinks.specs.Lines.{sign, literal_text, line, Place, between, minus, number, closed, no_literal, before, read_from, read, LinesExact}

pub joined-append : {X : Type 0} (f : X → List ℕ) (xs ys : List X) → flat_map f (xs ++ ys) ≡ flat_map f xs ++ flat_map f ys
joined-append f [] ys = refl
joined-append f (x ∷ xs) ys = ap (λ t. f x ++ t) (joined-append f xs ys) ∙ sym (append_assoc (f x) _ _)

pub joined_push : {X : Type 0} (f : X → List ℕ) (xs : List X) (x : X) → flat_map f (xs ++ (x ∷ [])) ≡ flat_map f xs ++ f x
joined_push f xs x = joined-append f xs (x ∷ []) ∙ ap (λ t. flat_map f xs ++ t) (append-nil (f x))

pub in_range_push : (h : ℕ) (c : Clause) (l : Literal) → in_range h c ≡ true → within h l ≡ true → in_range h (c ++ (l ∷ [])) ≡ true
in_range_push h [] l e w = and_from (within h l) true w refl
in_range_push h (k ∷ c) l e w =
    let both = and_parts (within h k) (in_range h c) e in
    and_from (within h k) _ both.0 (in_range_push h c l both.1 w)

-- what is written is read

-- the place before the first digit of a literal, by its sign
start : Bool → Place
start true = between
start false = minus

first-digit : (c : Clause) (p : Bool) (v : ℕ) (rest : List ℕ) → 1 ≤ v → v < 10 → read_from c (start p) ((48 + v) ∷ rest) ≡ read_from c (number p v) rest
unfolding read_from start
first-digit c true v rest low high =
    let e₁ : eqb (48 + v) 45 ≡ false = ne_eqb (48 + v) 45 (λ z. omega arith) in
    let e₂ : eqb (48 + v) 48 ≡ false = ne_eqb (48 + v) 48 (λ z. omega arith) in
    let e₃ : leb 49 (48 + v) ≡ true = le-leb 49 (48 + v) (omega arith) in
    let e₄ : leb (48 + v) 57 ≡ true = le-leb (48 + v) 57 (omega arith) in
    let same : (48 + v) - 48 ≡ v = omega arith in
    simp (e₁, e₂, e₃, e₄, same)
first-digit c false v rest low high =
    let e₃ : leb 49 (48 + v) ≡ true = le-leb 49 (48 + v) (omega arith) in
    let e₄ : leb (48 + v) 57 ≡ true = le-leb (48 + v) 57 (omega arith) in
    let same : (48 + v) - 48 ≡ v = omega arith in
    simp (e₃, e₄, same)

next_digit : (c : Clause) (p : Bool) (n d : ℕ) (rest : List ℕ) → d < 10 → 10 * n + d ≤ 9999 → read_from c (number p n) ((48 + d) ∷ rest) ≡ read_from c (number p (10 * n + d)) rest
unfolding read_from
next_digit c p n d rest low high =
    let e₁ : eqb (48 + d) 32 ≡ false = ne_eqb (48 + d) 32 (λ z. omega arith) in
    let same : (48 + d) - 48 ≡ d = omega arith in
    let e₂ : leb 48 (48 + d) ≡ true = le-leb 48 (48 + d) (omega arith) in
    let e₃ : leb (48 + d) 57 ≡ true = le-leb (48 + d) 57 (omega arith) in
    let e₄ : leb (10 * n + d) 9999 ≡ true = le-leb (10 * n + d) 9999 high in
    simp (e₁, same, e₂, e₃, e₄)

read_number : (c : Clause) (p : Bool) (v : ℕ) → v < 2 ^ 64 → 1 ≤ v → v ≤ 9999 → (rest : List ℕ) → read_from c (start p) (decimal v ++ rest) ≡ read_from c (number p v) rest
read_number c p =
    decimal_by_steps (λ v ds. 1 ≤ v → v ≤ 9999 → (rest : List ℕ) → read_from c (start p) (ds ++ rest) ≡ read_from c (number p v) rest)
    (λ v h low high rest. first-digit c p v rest low h)
    (λ v ds h ih low high rest.
    ap (read_from c (start p)) (append_assoc ds _ rest)
    ∙ ih (omega arith) (omega arith) ((48 + v % 10) ∷ rest)
    ∙ next_digit c p (v / 10) (v % 10) rest (omega arith) (omega arith)
    ∙ ap (λ n. read_from c (number p n) rest) (omega arith))

read_literal : (c : Clause) (p : Bool) (v : ℕ) (rest : List ℕ) → within 9999 (record { variable = v; positive = p }) ≡ true → read_from c between ((sign p ++ (decimal v ++ (32 ∷ []))) ++ rest) ≡ read_from (c ++ (record { variable = v; positive = p } ∷ [])) between rest
unfolding read_from start
read_literal c p v rest ok =
    let ends = and_parts (leb 1 v) (leb v 9999) ok in
    let low = leb-true 1 v ends.0 in
    let high = leb-true v 9999 ends.1 in
    let go : (q : Bool) → read_from c (start q) (decimal v ++ (32 ∷ rest)) ≡ read_from (c ++ (record { variable = v; positive = q } ∷ [])) between rest =
    λ q. read_number c q v (omega arith) low high (32 ∷ rest) in
    signed p go
  where
    signed : (p : Bool) → ((q : Bool) → read_from c (start q) (decimal v ++ (32 ∷ rest)) ≡ read_from (c ++ (record { variable = v; positive = q } ∷ [])) between rest) → read_from c between ((sign p ++ (decimal v ++ (32 ∷ []))) ++ rest) ≡ read_from (c ++ (record { variable = v; positive = p } ∷ [])) between rest
    signed true go = ap (read_from c between) (append_assoc (decimal v) (32 ∷ []) rest) ∙ go true
    signed false go = ap (read_from c minus) (append_assoc (decimal v) (32 ∷ []) rest) ∙ go false

read-line : (done c : Clause) (rest : List ℕ) → in_range 9999 c ≡ true → read_from done between (line c ++ rest) ≡ before (done ++ c) (read rest)
unfolding read_from
read-line done [] rest ok = ap (λ d. before d (read rest)) (sym (append-nil done))
read-line done (l ∷ ls) rest ok =
    let both = and_parts (within 9999 l) (in_range 9999 ls) ok in
    ap (λ t. read_from done between (t ++ rest)) (append_assoc (literal_text l) (flat_map literal_text ls) _)
    ∙ ap (read_from done between) (append_assoc (literal_text l) (line ls) rest)
    ∙ read_literal done l.positive l.variable (line ls ++ rest) both.0
    ∙ read-line (done ++ (l ∷ [])) ls rest both.1
    ∙ ap (λ d. before d (read rest)) (append_assoc done (l ∷ []) ls)

pub read-lines : (cs : Clauses) → all_in_range 9999 cs ≡ true → read (flat_map line cs) ≡ Some cs
unfolding read_from
read-lines [] ok = refl
read-lines (c ∷ cs) ok =
    let both = and_parts (in_range 9999 c) (all_in_range 9999 cs) ok in
    read-line [] c (flat_map line cs) both.0 ∙ ap (before c) (read-lines cs both.1)

-- what is read was written

-- the text holds the clauses cs
abbrev Holds : List ℕ → Clauses → Type 0
Holds text cs = (text ≡ flat_map line cs) × (all_in_range 9999 cs ≡ true)

-- the text of a line up to a place
shown : Place → List ℕ
shown between = []
shown minus = 45 ∷ []
shown (number p n) = sign p ++ decimal n
shown closed = 48 ∷ []

-- what is known of a number at a place
Sound : Place → Type 0
Sound between = Unit {0}
Sound minus = Unit {0}
Sound (number p n) = (1 ≤ n) × (n ≤ 9999)
Sound closed = Unit {0}

cond_some : {X : Type 0} (t : Bool) (a b : Option X) (y : X) → cond t a b ≡ Some y → ((t ≡ true) × (a ≡ Some y)) ⊎ ((t ≡ false) × (b ≡ Some y))
cond_some true a b y e = inl (refl, e)
cond_some false a b y e = inr (refl, e)

none_some : {X : Type 0} {Y : Type 0} (x : X) → None ≡ Some x → Y
none_some {X} {Y} x e = let z : ◌≡◌ {A = ℕ} 0 1 = cc in let f : ⊥ = omega arith in absurd f

before_some : (c : Clause) (o : Option Clauses) (cs : Clauses) → before c o ≡ Some cs → (ds : Clauses) × (o ≡ Some ds) × (cs ≡ c ∷ ds)
before_some c None cs e = none_some cs e
before_some c (Some ds) cs e = (ds, refl, cc)

-- one byte more of the text of a line
byte_more : (xs ys zs : List ℕ) (b : ℕ) (bs : List ℕ) → ys ++ (b ∷ []) ≡ zs → (xs ++ ys) ++ (b ∷ bs) ≡ (xs ++ zs) ++ bs
byte_more xs ys zs b bs e =
    sym (append_assoc (xs ++ ys) (b ∷ []) bs) ∙ ap (λ t. t ++ bs) (append_assoc xs ys (b ∷ [])) ∙ ap (λ t. (xs ++ t) ++ bs) e

digit_is : (b : ℕ) → leb 49 b ≡ true → leb b 57 ≡ true → b ∷ [] ≡ decimal (b - 48)
digit_is b low high =
    let h = leb-true 49 b low in let k = leb-true b 57 high in
    ap (λ n. n ∷ []) (omega arith) ∙ sym (decimal_digit (b - 48) (omega arith))

digit_more : (n b : ℕ) → 1 ≤ n → 48 ≤ b → b ≤ 57 → 10 * n + (b - 48) ≤ 9999 → decimal n ++ (b ∷ []) ≡ decimal (10 * n + (b - 48))
digit_more n b low h k high =
    let m : ℕ = 10 * n + (b - 48) in
    let q : (10 * n + (b - 48)) / 10 ≡ n = omega arith in
    let r : 48 + (10 * n + (b - 48)) % 10 ≡ b = omega arith in
    sym (decimal_step (10 * n + (b - 48)) (omega arith) (omega arith) ∙ ap (λ d. decimal d ++ ((48 + (10 * n + (b - 48)) % 10) ∷ [])) q ∙ ap (λ d. decimal n ++ (d ∷ [])) r)

-- the step of each place, from what holds of the rest of the text
module _ (bs : List ℕ) (cs : Clauses) (c : Clause) (ok : in_range 9999 c ≡ true)
    (rest : (d : Clause) (q : Place) → Sound q → in_range 9999 d ≡ true → (ds : Clauses) → read_from d q bs ≡ Some ds → Holds ((flat_map literal_text d ++ shown q) ++ bs) ds) where
  -- the next place is q, whose text is one byte longer
  step : (p q : Place) (b : ℕ) → Sound q → shown p ++ (b ∷ []) ≡ shown q → read_from c q bs ≡ Some cs → Holds ((flat_map literal_text c ++ shown p) ++ (b ∷ bs)) cs
  step p q b s e r =
      let h = rest c q s ok cs r in
      (byte_more (flat_map literal_text c) (shown p) (shown q) b bs e ∙ h.0, h.1)

  from_between : (b : ℕ) → read_from c between (b ∷ bs) ≡ Some cs → Holds ((flat_map literal_text c ++ shown between) ++ (b ∷ bs)) cs
  unfolding read_from shown Sound
  from_between b e =
      ⊎_elim (λ (y, r). step between minus b tt (ap (λ n. n ∷ []) (eqb-true b 45 y)) r)
      (λ (n, f). ⊎_elim (λ (y, r). step between closed b tt (ap (λ n. n ∷ []) (eqb-true b 48 y)) r)
      (λ (n₁, g). ⊎_elim (λ (y, r).
      let ends = and_parts (leb 49 b) (leb b 57) y in
      let low = leb-true 49 b ends.0 in let high = leb-true b 57 ends.1 in
      step between (number true (b - 48)) b (omega arith, omega arith) (digit_is b ends.0 ends.1) r)
      (λ (n₂, z). none_some cs z) (cond_some _ _ _ cs g)) (cond_some _ _ _ cs f)) (cond_some _ _ _ cs e)

  from_minus : (b : ℕ) → read_from c minus (b ∷ bs) ≡ Some cs → Holds ((flat_map literal_text c ++ shown minus) ++ (b ∷ bs)) cs
  unfolding read_from shown Sound
  from_minus b e =
      ⊎_elim (λ (y, r).
      let ends = and_parts (leb 49 b) (leb b 57) y in
      let low = leb-true 49 b ends.0 in let high = leb-true b 57 ends.1 in
      step minus (number false (b - 48)) b (omega arith, omega arith) (ap (λ t. 45 ∷ t) (digit_is b ends.0 ends.1)) r)
      (λ (n, z). none_some cs z) (cond_some _ _ _ cs e)

  literal_ends : (p : Bool) (n b : ℕ) → b ≡ 32 → (flat_map literal_text c ++ (sign p ++ decimal n)) ++ (b ∷ bs) ≡ (flat_map literal_text (c ++ (record { variable = n; positive = p } ∷ [])) ++ []) ++ bs
  literal_ends p n b e =
      let whole : flat_map literal_text (c ++ (record { variable = n; positive = p } ∷ [])) ≡ flat_map literal_text c ++ (sign p ++ (decimal n ++ (32 ∷ []))) = joined_push literal_text c (record { variable = n; positive = p }) in
      byte_more (flat_map literal_text c) (sign p ++ decimal n) (sign p ++ (decimal n ++ (32 ∷ []))) b bs (append_assoc (sign p) (decimal n) (b ∷ []) ∙ ap (λ z. sign p ++ (decimal n ++ (z ∷ []))) e)
      ∙ ap (λ t. t ++ bs) (sym (append-nil _ ∙ whole))

  from_number : (p : Bool) (n b : ℕ) → (1 ≤ n) × (n ≤ 9999) → read_from c (number p n) (b ∷ bs) ≡ Some cs → Holds ((flat_map literal_text c ++ shown (number p n)) ++ (b ∷ bs)) cs
  unfolding read_from shown Sound
  from_number p n b s e =
      ⊎_elim (λ (y, r).
      let l : Literal = record { variable = n; positive = p } in
      let ranged : within 9999 (record { variable = n; positive = p }) ≡ true = and_from (leb 1 n) (leb n 9999) (le-leb 1 n s.0) (le-leb n 9999 s.1) in
      let h = rest (c ++ (record { variable = n; positive = p } ∷ [])) between tt (in_range_push 9999 c (record { variable = n; positive = p }) ok ranged) cs r in
      (literal_ends p n b (eqb-true b 32 y) ∙ h.0, h.1))
      (λ (m, f). ⊎_elim (λ (y, r).
      let parts = and_parts (leb 48 b && leb b 57) (leb (10 * n + (b - 48)) 9999) y in
      let ends = and_parts (leb 48 b) (leb b 57) parts.0 in
      let low = leb-true 48 b ends.0 in let high = leb-true b 57 ends.1 in
      let small = leb-true (10 * n + (b - 48)) 9999 parts.1 in
      step (number p n) (number p (10 * n + (b - 48))) b (omega (arith, s.0), small) (append_assoc (sign p) (decimal n) (b ∷ []) ∙ ap (λ t. sign p ++ t) (digit_more n b s.0 low high small)) r)
      (λ (m₁, z). none_some cs z) (cond_some _ _ _ cs f)) (cond_some _ _ _ cs e)

  from_closed : (b : ℕ) → read_from c closed (b ∷ bs) ≡ Some cs → Holds ((flat_map literal_text c ++ shown closed) ++ (b ∷ bs)) cs
  unfolding read_from shown Sound
  from_closed b e =
      ⊎_elim (λ (y, r).
      let (ds, f, g) = before_some c (read_from [] between bs) cs r in
      let h = rest [] between tt refl ds f in (
        byte_more (flat_map literal_text c) (48 ∷ []) (48 ∷ (10 ∷ [])) b bs (ap (λ z. 48 ∷ (z ∷ [])) (eqb-true b 10 y))
            ∙ ap (λ t. (flat_map literal_text c ++ (48 ∷ (10 ∷ []))) ++ t) h.0 ∙ ap (flat_map line) (sym g),
        ap (all_in_range 9999) g ∙ and_from (in_range 9999 c) (all_in_range 9999 ds) ok h.1,
      ))
      (λ (n, z). none_some cs z) (cond_some _ _ _ cs e)

nothing_left : (c : Clause) (cs : Clauses) → cond (no_literal c) (Some []) None ≡ Some cs → Holds ((flat_map literal_text c ++ []) ++ []) cs
nothing_left [] cs e = let z : cs ≡ [] = cc in (ap (flat_map line) (sym z), ap (all_in_range 9999) z)
nothing_left (l ∷ ls) cs e = none_some cs e

read_shows : (bs : List ℕ) (c : Clause) (q : Place) → Sound q → in_range 9999 c ≡ true → (cs : Clauses) → read_from c q bs ≡ Some cs → Holds ((flat_map literal_text c ++ shown q) ++ bs) cs
unfolding read_from shown Sound
read_shows [] c between s ok cs e = nothing_left c cs e
read_shows [] c minus s ok cs e = none_some cs e
read_shows [] c (number p n) s ok cs e = none_some cs e
read_shows [] c closed s ok cs e = none_some cs e
read_shows (b ∷ bs) c between s ok cs e = from_between bs cs c ok (read_shows bs) b e
read_shows (b ∷ bs) c minus s ok cs e = from_minus bs cs c ok (read_shows bs) b e
read_shows (b ∷ bs) c (number p n) s ok cs e = from_number bs cs c ok (read_shows bs) p n b s e
read_shows (b ∷ bs) c closed s ok cs e = from_closed bs cs c ok (read_shows bs) b e

pub lines_exact : LinesExact
unfolding shown Sound
lines_exact text cs = (λ e. read_shows text [] between tt refl cs e, λ (e, ok). ap read e ∙ read-lines cs ok)
