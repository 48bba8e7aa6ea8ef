-- Laws of digits and of the line of some bytes.
use Rattle.std.specs.Prelude.{◌≡◌, ℕ, zero, suc, ◌+◌, ◌*◌, ◌/◌, ◌%◌, ◌<◌, Bool, true, false, ◌&&◌, List, [], ◌∷◌, ◌++◌, length, take, Some, None, Option, ◌==◌, slice_index, refl}
use Rattle.std.proofs.Common.{sym, ap, ◌∙◌, subst, arith}
use Rattle.std.proofs.Math.Path.{subst⁻¹}
use Rattle.std.proofs.lemmas.List.{take_more}
use Rattle.std.proofs.lemmas.Bool.{eqb-true, and_parts, cond-true, cond-false}
use Rattle.frames.specs.Hex.{byte, bytes, Bytes, digit, digits, worth, place, join, front}
use Rattle.frames.specs.Written.{spelled}

some_inj : (m n : ℕ) → Some m ≡ Some n → m ≡ n
some_inj m n e = cc

-- the test that an option is a number
same : Option ℕ → ℕ → Bool
same None n = false
same (Some m) n = m == n

same_is : (o : Option ℕ) (n : ℕ) → same o n ≡ true → o ≡ Some n
unfolding same
same_is None n e = let z : ◌≡◌ {A = ℕ} 0 1 = cc in absurd (omega arith)
same_is (Some m) n e = ap Some (eqb-true m n e)

-- the test at each of the digits, counted from i
each : List ℕ → ℕ → Bool
each [] i = true
each (x ∷ xs) i = same (worth x) i && each xs (suc i)

each_at : (xs : List ℕ) (i : ℕ) → each xs i ≡ true → (k : ℕ) → k < length xs → worth (slice_index xs k) ≡ Some (i + k)
unfolding each
each_at [] i e k h = absurd (omega arith)
each_at (x ∷ xs) i e zero h = same_is (worth x) i (and_parts _ _ e).0 ∙ ap Some (omega arith)
each_at (x ∷ xs) i e (suc k) h = each_at xs (suc i) (and_parts _ _ e).1 k (omega arith) ∙ ap Some (omega arith)

-- what a written digit stands for
pub worth-digit : (n : ℕ) → n < 16 → worth (digit n) ≡ Some n
unfolding each same
worth-digit n h = each_at digits 0 refl n h ∙ ap Some (omega arith)

pub byte-digits : (b : ℕ) → b < 256 → byte (digit (b / 16)) (digit (b % 16)) ≡ Some b
byte-digits b h =
    let p = worth-digit (b / 16) (omega arith) in
    let q = worth-digit (b % 16) (omega arith) in
    ap (λ o. join o (worth (digit (b % 16)))) p ∙ ap (join (Some (b / 16))) q ∙ ap Some (omega arith)

-- what is written is read back
pub bytes-spelled : (bs : List ℕ) → Bytes bs → bytes (spelled bs) ≡ Some bs
bytes-spelled [] h = refl
bytes-spelled (b ∷ bs) h =
    ap (λ o. front o (bytes (spelled bs))) (byte-digits b h.0) ∙ ap (front (Some b)) (bytes-spelled bs h.1)

Found : List ℕ → ℕ → ℕ → ℕ → Type 0
Found xs i c n = (k : ℕ) × (n ≡ i + k) × (k < length xs) × (slice_index xs k ≡ c)

place_found : (xs : List ℕ) (i c n : ℕ) → place xs i c ≡ Some n → Found xs i c n
unfolding Found
place_found [] i c n e = let z : ◌≡◌ {A = ℕ} 0 1 = cc in absurd (omega arith)
place_found (x ∷ xs) i c n e = go (place_found xs (suc i) c n) (c == x) refl
  where
    go : (place xs (suc i) c ≡ Some n → Found xs (suc i) c n) → (b : Bool) → (c == x) ≡ b → Found (x ∷ xs) i c n
    go ih true t =
        let s : Some i ≡ Some n = sym (cond-true (c == x) (Some i) (place xs (suc i) c) t) ∙ e in
        let q = some_inj i n s in
        (0, omega arith, omega arith, sym (eqb-true c x t))
    go ih false t =
        let r = ih (sym (cond-false (c == x) (Some i) (place xs (suc i) c) t) ∙ e) in
        (suc r.0, omega arith, omega arith, r.3)

pub worth_found : (c n : ℕ) → worth c ≡ Some n → (n < 16) × (digit n ≡ c)
unfolding Found
worth_found c n e =
    let r = place_found digits 0 c n e in
    let k : n ≡ r.0 = omega arith in
    (omega arith, ap digit k ∙ r.3)

join_some : (o p : Option ℕ) (b : ℕ) → join o p ≡ Some b → (h : ℕ) × (l : ℕ) × (o ≡ Some h) × (p ≡ Some l) × (b ≡ 16 * h + l)
join_some (Some h) (Some l) b e = (h, l, refl, refl, sym (some_inj _ _ e))
join_some (Some h) None b e = let z : ◌≡◌ {A = ℕ} 0 1 = cc in absurd (omega arith)
join_some None (Some l) b e = let z : ◌≡◌ {A = ℕ} 0 1 = cc in absurd (omega arith)
join_some None None b e = let z : ◌≡◌ {A = ℕ} 0 1 = cc in absurd (omega arith)

front_some : (o : Option ℕ) (p : Option (List ℕ)) (bs : List ℕ) → front o p ≡ Some bs → (b : ℕ) × (r : List ℕ) × (o ≡ Some b) × (p ≡ Some r) × (b ∷ r ≡ bs)
front_some (Some b) (Some r) bs e = (b, r, refl, refl, cc)
front_some (Some b) None bs e = let z : ◌≡◌ {A = ℕ} 0 1 = cc in absurd (omega arith)
front_some None p bs e = let z : ◌≡◌ {A = ℕ} 0 1 = cc in absurd (omega arith)

-- what is read is written as the same line
pub byte_is : (h l b : ℕ) → byte h l ≡ Some b → (digit (b / 16) ≡ h) × (digit (b % 16) ≡ l) × (b < 256)
byte_is h l b e =
    let j = join_some (worth h) (worth l) b e in
    let p = worth_found h j.0 j.2 in
    let q = worth_found l j.1 j.3 in
    let m : b / 16 ≡ j.0 = omega (arith, p.0, q.0, j.4) in
    let n : b % 16 ≡ j.1 = omega (arith, p.0, q.0, j.4) in
    (ap digit m ∙ p.1, ap digit n ∙ q.1, omega (arith, p.0, q.0, j.4))

pub spelled-bytes : (cs bs : List ℕ) → bytes cs ≡ Some bs → (spelled bs ≡ cs) × Bytes bs × (length cs ≡ 2 * length bs)
spelled-bytes [] bs e = let z : bs ≡ [] = cc in (ap spelled z, subst⁻¹ Bytes z tt, sym (ap (λ l. 2 * length l) z))
spelled-bytes (c ∷ []) bs e = let z : ◌≡◌ {A = ℕ} 0 1 = cc in absurd (omega arith)
spelled-bytes (h ∷ l ∷ rest) bs e =
    let f = front_some (byte h l) (bytes rest) bs e in
    let b = byte_is h l f.0 f.2 in
    let r = spelled-bytes rest f.1 f.3 in (
      ap spelled (sym f.4) ∙ ap (λ x. x ∷ digit (f.0 % 16) ∷ spelled f.1) b.0 ∙ ap (λ x. h ∷ x ∷ spelled f.1) b.1 ∙ ap (λ x. h ∷ l ∷ x) r.0,
      subst Bytes f.4 (b.2, r.1),
      omega (arith, r.2, ap length f.4),
    )

pub spelled-append : (xs ys : List ℕ) → spelled (xs ++ ys) ≡ spelled xs ++ spelled ys
spelled-append [] ys = refl
spelled-append (x ∷ xs) ys = ap (λ l. digit (x / 16) ∷ digit (x % 16) ∷ l) (spelled-append xs ys)

pub spelled_push : (xs : List ℕ) (i : ℕ) → i < length xs → spelled (take (i + 1) xs) ≡ spelled (take i xs) ++ digit (slice_index xs i / 16) ∷ digit (slice_index xs i % 16) ∷ []
spelled_push xs i h = ap spelled (take_more xs i 0 h) ∙ spelled-append (take i xs) (slice_index xs i ∷ [])
