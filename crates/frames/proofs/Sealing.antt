-- Laws of frames that are closed by a check byte, and the two ways round, for any kind.
use Rattle.std.proofs.Common.{◌≡◌, ℕ, ◌-◌, ◌*◌, ◌%◌, ◌<◌, ◌≤◌, Bool, true, false, cond, eqb, List, [], ◌∷◌, ◌++◌, length, get_or, IfOk, Ok, Err, sum, Result, sym, refl, ap, ◌∙◌, subst, arith}
use Rattle.std.proofs.lemmas.List.{length_push}
use Rattle.std.proofs.lemmas.List.Sums.{sum_by_push}
use Rattle.std.proofs.lemmas.Bool.{eqb-true, cond-true, eq-eqb, le-leb, and_from}
use Rattle.cnf.specs.Questions.{first_no}
use Rattle.frames.specs.declared.refusals.Refusal.{Refusal}
use Rattle.frames.specs.declared.refusals.Refusal.TheVariants.{Kind, Length}
use Rattle.frames.specs.Hex.{Bytes}
use Rattle.frames.specs.Layouts.{Layout, Lawful}
use Rattle.frames.specs.Lawfulness.{byte_at}
use Rattle.frames.specs.Lines.{frame_length, framed, kind_asks, reading}
use Rattle.frames.specs.Written.{spelled, sealed, check, written}
use Rattle.frames.proofs.Framing.{framed-closed, framed_ok, after, after-bytes}
use Rattle.frames.proofs.Spelling.{bytes-spelled, spelled-bytes}

-- a byte more
bytes_push : (bs : List ℕ) (b : ℕ) → Bytes bs → b < 256 → Bytes (bs ++ b ∷ [])
bytes_push [] b h k = (k, tt)
bytes_push (x ∷ bs) b h k = (h.0, bytes_push bs b h.1 k)

sum_sealed : (bs : List ℕ) → sum (sealed bs) % 256 ≡ 0
sum_sealed bs = omega (arith, sum_by_push (λ x. x) bs (check bs))

-- the last byte of a frame whose sum is a multiple of 256
check_is : (bs : List ℕ) (c : ℕ) → c < 256 → sum (bs ++ c ∷ []) % 256 ≡ 0 → c ≡ check bs
check_is bs c h e = omega (arith, sum_by_push (λ x. x) bs c)

length-spelled : (bs : List ℕ) → length (spelled bs) ≡ 2 * length bs
length-spelled [] = refl
length-spelled (b ∷ bs) = omega (arith, length-spelled bs)

-- the line of a closed frame is read as that frame
framed-spelled : (bs : List ℕ) → Bytes bs → 3 ≤ length bs → length bs ≤ 7 → sum bs % 256 ≡ 0 → framed (spelled bs) ≡ Ok bs
framed-spelled bs h p q e =
    let n = length-spelled bs in
    let l = length (spelled bs) in
    let even : l % 2 ≡ 0 = omega arith in
    let long : frame_length l ≡ true = and_from _ _ (le-leb 6 l (omega arith)) (and_from _ _ (le-leb l 14 (omega arith)) (eq-eqb (l % 2) 0 even)) in
    sym (framed-closed (spelled bs) bs long (bytes-spelled bs h) (eq-eqb (sum bs % 256) 0 e))

-- the record of the bytes of a frame, by questions 3 and 4
abbrev pub read_as : {R : Type 0} → Layout R → List ℕ → Result R Refusal
read_as k bs = first_no (kind_asks k bs) (k.fields bs)

read_as_yes : {R : Type 0} (k : Layout R) (bs : List ℕ) → get_or bs 0 0 ≡ k.code → length bs ≡ k.size → read_as k bs ≡ Ok (k.fields bs)
read_as_yes k bs p q =
    cond-true (eqb (get_or bs 0 0) k.code) (cond (eqb (length bs) k.size) (Ok (k.fields bs)) (Err Length)) (Err Kind) (eq-eqb (get_or bs 0 0) k.code p)
    ∙ cond-true (eqb (length bs) k.size) (Ok (k.fields bs)) (Err Length) (eq-eqb (length bs) k.size q)

-- the bytes of a record's frame
abbrev frame_of : {R : Type 0} → Layout R → R → List ℕ
frame_of k x = sealed (k.code ∷ k.laid x)

module _ {R : Type 0} (k : Layout R) (law : Lawful k) where
  length_frame : (x : R) → length (frame_of k x) ≡ k.size
  length_frame x = let n = law.counts x in length_push (k.code ∷ k.laid x) (check (k.code ∷ k.laid x)) ∙ omega arith

  pub write_read : (x : R) → k.small x → reading k (written k x) ≡ Ok x
  write_read x s =
      let n = length_frame x in
      let c : check (k.code ∷ k.laid x) < 256 = omega arith in
      let f = framed-spelled (frame_of k x) (bytes_push (k.code ∷ k.laid x) (check (k.code ∷ k.laid x)) (law.code_fits, law.fits x s) c) (omega (arith, law.least)) (omega (arith, law.most)) (sum_sealed (k.code ∷ k.laid x)) in
      after-bytes (kind_asks k) k.fields (written k x)
      ∙ ap (λ r. after r (read_as k)) f
      ∙ read_as_yes k (frame_of k x) refl n
      ∙ ap Ok (law.reads x k.code (check (k.code ∷ k.laid x)) s)

  same_line : (line bs : List ℕ) → framed line ≡ Ok bs → get_or bs 0 0 ≡ k.code → length bs ≡ k.size → written k (k.fields bs) ≡ line
  same_line line bs f p q =
      let o = framed_ok line bs f in
      let t = spelled-bytes line bs o.0 in
      let front = k.code ∷ k.laid (k.fields bs) in
      let c = get_or bs (k.size - 1) 0 in
      let w : bs ≡ front ++ c ∷ [] = law.writes bs t.1 q ∙ ap (λ b. b ∷ (k.laid (k.fields bs) ++ c ∷ [])) p in
      let s = ap (λ l. sum l % 256) (sym w) ∙ o.1 in
      let e = check_is front c (byte_at bs (k.size - 1) t.1) s in
      ap spelled (ap (λ b. front ++ b ∷ []) (sym e) ∙ sym w) ∙ t.0

  pub back_at : (line bs : List ℕ) → framed line ≡ Ok bs → IfOk (read_as k bs) (λ x. written k x ≡ line)
  back_at line bs f = pick (eqb (get_or bs 0 0) k.code) (eqb (length bs) k.size) refl refl
    where
      pick : (a b : Bool) → eqb (get_or bs 0 0) k.code ≡ a → eqb (length bs) k.size ≡ b → IfOk {E = Refusal} (cond a (cond b (Ok (k.fields bs)) (Err Length)) (Err Kind)) (λ x. written k x ≡ line)
      pick true true p q = same_line line bs f (eqb-true (get_or bs 0 0) k.code p) (eqb-true (length bs) k.size q)
      pick true false p q = tt
      pick false b p q = tt

  read_write : (line : List ℕ) → IfOk (reading k line) (λ x. written k x ≡ line)
  read_write line = subst (λ r. IfOk r (λ x. written k x ≡ line)) (sym (after-bytes (kind_asks k) k.fields line)) (at (framed line) refl)
    where
      at : (r : Result (List ℕ) Refusal) → framed line ≡ r → IfOk (after r (read_as k)) (λ x. written k x ≡ line)
      at (Ok bs) f = back_at line bs f
      at (Err e) f = tt

  -- what is read is written as the same line
  pub read_back : (line : List ℕ) (r : Result R Refusal) → r ≡ reading k line → IfOk r (λ x. written k x ≡ line)
  read_back line r e = subst (λ q. IfOk q (λ x. written k x ≡ line)) (sym e) (read_write line)
