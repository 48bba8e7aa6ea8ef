-- Laws of the bytes of a line, and of the first two questions.
use Rattle.std.proofs.Common.{◌≡◌, ℕ, ◌+◌, ◌*◌, ◌%◌, ◌<◌, ◌≤◌, Bool, true, false, cond, ◌&&◌, eqb, leb, List, [], ◌∷◌, ◌++◌, length, get_or, is_some, Some, None, Ok, Err, sum, Option, Result, sym, refl, ap, ◌∙◌, append_assoc, arith}
use Rattle.std.proofs.lemmas.List.{append-nil}
use Rattle.std.proofs.lemmas.Bool.{and_left, and_right, and_from, and_parts, cond-true, cond-false, eq-eqb, eqb-true, leb-true}
use Rattle.cnf.specs.Questions.{Question, first_no}
use Rattle.frames.specs.declared.refusals.Refusal.{Refusal}
use Rattle.frames.specs.declared.refusals.Refusal.TheVariants.{Digits, Sum}
use Rattle.frames.specs.Hex.{byte, bytes, front, join, worth, all_digits, or_empty, decoded}
use Rattle.frames.specs.Lines.{frame_length, closed, line_asks, framed}

-- the bytes xs in front of those of the rest
abbrev pub prepend : List ℕ → Option (List ℕ) → Option (List ℕ)
prepend xs None = None
prepend xs (Some ys) = Some (xs ++ ys)

pub prepend_nil : (o : Option (List ℕ)) → prepend [] o ≡ o
prepend_nil None = refl
prepend_nil (Some ys) = refl

pub prepend_front : (xs : List ℕ) (b : ℕ) (o : Option (List ℕ)) → prepend xs (front (Some b) o) ≡ prepend (xs ++ b ∷ []) o
prepend_front xs b None = refl
prepend_front xs b (Some ys) = ap Some (sym (append_assoc xs (b ∷ []) ys))

-- the next two characters
pub bytes_step : (cs pair rest : List ℕ) → cs ≡ pair ++ rest → length pair ≡ 2 → bytes cs ≡ front (byte (get_or pair 0 0) (get_or pair 1 0)) (bytes rest)
bytes_step cs [] rest e n = absurd (omega arith)
bytes_step cs (h ∷ []) rest e n = absurd (omega arith)
bytes_step cs (h ∷ l ∷ []) rest e n = ap bytes e
bytes_step cs (h ∷ l ∷ k ∷ ks) rest e n = absurd (omega arith)

two_more : (o p : Option ℕ) (q : Option (List ℕ)) (v d : Bool) → (v && d) ≡ is_some q → (v && (is_some o && (is_some p && d))) ≡ is_some (front (join o p) q)
two_more (Some h) (Some l) None v d e = e
two_more (Some h) (Some l) (Some bs) v d e = e
two_more (Some h) None q v d e = and_right v false refl
two_more None (Some l) q v d e = and_right v false refl
two_more None None q v d e = and_right v false refl

-- a line has bytes where it is an even number of digits
pub even_digits : (line : List ℕ) → (eqb (length line % 2) 0 && all_digits line) ≡ is_some (bytes line)
even_digits [] = refl
even_digits (c ∷ []) = refl
even_digits (h ∷ l ∷ rest) =
    let e : length (h ∷ l ∷ rest) % 2 ≡ length rest % 2 = omega arith in
    ap (λ n. eqb n 0 && (is_some (worth h) && (is_some (worth l) && all_digits rest))) e
    ∙ two_more (worth h) (worth l) (bytes rest) (eqb (length rest % 2) 0) (all_digits rest) (even_digits rest)

pub length-within : (n : ℕ) → frame_length n ≡ true → (6 ≤ n) × (n ≤ 14) × (n % 2 ≡ 0)
length-within n e =
    let p = and_parts (leb 6 n) (leb n 14 && eqb (n % 2) 0) e in
    let q = and_parts (leb n 14) (eqb (n % 2) 0) p.1 in
    (leb-true 6 n p.0, leb-true n 14 q.0, eqb-true (n % 2) 0 q.1)

-- a line of a frame's length has bytes where it has digits only
digits-bytes : (line : List ℕ) → frame_length (length line) ≡ true → all_digits line ≡ is_some (bytes line)
digits-bytes line e =
    let even = eq-eqb (length line % 2) 0 (length-within (length line) e).2 in
    ap (λ b. b && all_digits line) (sym even) ∙ even_digits line

-- all of the characters, two for each byte
pub all-bytes : (line xs rest : List ℕ) → frame_length (length line) ≡ true → 2 * length xs + length rest ≡ length line → length rest < 2 → bytes line ≡ prepend xs (bytes rest) → bytes line ≡ Some xs
all-bytes line xs [] l h k e = e ∙ ap Some (append-nil xs)
all-bytes line xs (c ∷ []) l h k e = let within = length-within (length line) l in absurd (omega (arith, within.2, h))
all-bytes line xs (c ∷ d ∷ cs) l h k e = absurd (omega (arith, k))

-- question 1 is answered by no
refused : (line : List ℕ) → (frame_length (length line) && all_digits line) ≡ false → Err Digits ≡ framed line
refused line e = sym (cond-false (frame_length (length line) && all_digits line) (cond (closed (decoded line)) (Ok (decoded line)) (Err Sum)) (Err Digits) e)

pub framed-length : (line : List ℕ) → frame_length (length line) ≡ false → Err Digits ≡ framed line
framed-length line e = refused line (and_left _ _ e)

pub framed_none : (line : List ℕ) → frame_length (length line) ≡ true → bytes line ≡ None → Err Digits ≡ framed line
framed_none line l e = refused line (and_right _ _ (digits-bytes line l ∙ ap is_some e))

-- it is answered by yes
framed_some : (line bs : List ℕ) → frame_length (length line) ≡ true → bytes line ≡ Some bs → framed line ≡ cond (closed bs) (Ok bs) (Err Sum)
framed_some line bs l e =
    cond-true (frame_length (length line) && all_digits line) (cond (closed (decoded line)) (Ok (decoded line)) (Err Sum)) (Err Digits) (and_from _ _ l (digits-bytes line l ∙ ap is_some e))
    ∙ ap (λ xs. cond (closed xs) (Ok xs) (Err Sum)) (ap or_empty e)

pub framed_open : (line bs : List ℕ) → frame_length (length line) ≡ true → bytes line ≡ Some bs → closed bs ≡ false → Err Sum ≡ framed line
framed_open line bs l e n = sym (framed_some line bs l e ∙ ap (λ b. cond b (Ok bs) (Err Sum)) n)

pub framed-closed : (line bs : List ℕ) → frame_length (length line) ≡ true → bytes line ≡ Some bs → closed bs ≡ true → Ok bs ≡ framed line
framed-closed line bs l e n = sym (framed_some line bs l e ∙ ap (λ b. cond b (Ok bs) (Err Sum)) n)

-- what is known of a line that both questions let pass
sum_ok : (xs bs : List ℕ) (b : Bool) → closed xs ≡ b → ◌≡◌ {A = Result (List ℕ) Refusal} (cond b (Ok xs) (Err Sum)) (Ok bs) → (xs ≡ bs) × (sum bs % 256 ≡ 0)
sum_ok xs bs true t e =
    let z : xs ≡ bs = cc in
    (z, ap (λ l. sum l % 256) (sym z) ∙ eqb-true (sum xs % 256) 0 t)
sum_ok xs bs false t e = let z : ◌≡◌ {A = ℕ} 0 1 = cc in absurd (omega arith)

passed : (b : Bool) (o : Option (List ℕ)) (bs : List ℕ) → (b ≡ true → is_some o ≡ true) → cond b (cond (closed (or_empty o)) (Ok (or_empty o)) (Err Sum)) (Err Digits) ≡ Ok bs → (o ≡ Some bs) × (sum bs % 256 ≡ 0)
passed true (Some xs) bs h e =
    let r = sum_ok xs bs (closed xs) refl e in
    (ap Some r.0, r.1)
passed true None bs h e = let f = h refl in let z : ◌≡◌ {A = ℕ} 0 1 = cc in absurd (omega arith)
passed false o bs h e = let z : ◌≡◌ {A = ℕ} 0 1 = cc in absurd (omega arith)

pub framed_ok : (line bs : List ℕ) → framed line ≡ Ok bs → (bytes line ≡ Some bs) × (sum bs % 256 ≡ 0)
framed_ok line bs e =
    passed (frame_length (length line) && all_digits line) (bytes line) bs
    (λ t. let p = and_parts (frame_length (length line)) (all_digits line) t in sym (digits-bytes line p.0) ∙ p.1)
    e

abbrev pub after : {X Y E : Type 0} → Result X E → (X → Result Y E) → Result Y E
after (Ok x) f = f x
after (Err e) f = Err e

-- all the questions are the first two and then those of the bytes
pub after-bytes : {X : Type 0} (asks : List ℕ → List (Question Refusal)) (give : List ℕ → X) (line : List ℕ) → first_no (line_asks line ++ asks (decoded line)) (give (decoded line)) ≡ after (framed line) (λ bs. first_no (asks bs) (give bs))
after-bytes {X} asks give line = at (frame_length (length line) && all_digits line) (closed (decoded line)) (decoded line)
  where
    at : (a b : Bool) (bs : List ℕ) → cond a (cond b (first_no (asks bs) (give bs)) (Err Sum)) (Err Digits) ≡ after {Y = X} (cond a (cond b (Ok bs) (Err Sum)) (Err Digits)) (λ cs. first_no (asks cs) (give cs))
    at true true bs = refl
    at true false bs = refl
    at false b bs = refl

module _ {X : Type 0} (asks : List ℕ → List (Question Refusal)) (give : List ℕ → X) (line : List ℕ) where
  -- what all the questions answer of a line that the first two let pass, and of another
  pub asked_framed : (bs : List ℕ) → Ok bs ≡ framed line → first_no (asks bs) (give bs) ≡ first_no (line_asks line ++ asks (decoded line)) (give (decoded line))
  asked_framed bs e = ap (λ r. after r (λ cs. first_no (asks cs) (give cs))) e ∙ sym (after-bytes asks give line)

  pub asked_refused : (d : Refusal) → Err d ≡ framed line → Err d ≡ first_no (line_asks line ++ asks (decoded line)) (give (decoded line))
  asked_refused d e = ap (λ r. after r (λ cs. first_no (asks cs) (give cs))) e ∙ sym (after-bytes asks give line)
