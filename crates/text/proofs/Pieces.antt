-- Proof of the laws of lines and of words.
use Rattle.std.proofs.Common.{◌≡◌, ℕ, ◌<◌, Bool, true, false, cond, eqb, List, [], ◌∷◌, ◌++◌, length, sym, refl, ap, ◌∙◌, subst, inl, inr, ⊎_elim, append_assoc, append-nil, arith}
use Rattle.std.specs.List.{AllByRecursion}
use Rattle.std.proofs.lemmas.Bool.{cond-true, cond-false, eqb-true, eqb-false}
use Rattle.text.specs.Split.{start, lines, words}
use Rattle.text.specs.Laws.{Free, last, page, MadeOf, ended, LinesLaw, blank_before, WordsLaw}
use Rattle.text.proofs.Splits.{lines-front, words-front, whole_word}

-- a character that is not s joins the first piece
free_start : (s b : ℕ) (ls : List (List ℕ)) → (b ≡ s → ⊥) → AllByRecursion (Free s) ls → AllByRecursion (Free s) (start b ls)
free_start s b [] n a = ((n, tt), tt)
free_start s b (l ∷ ls) n a = ((n, a.0), a.1)

-- pieces is split at s
abbrev Splits : ℕ → (List ℕ → List (List ℕ)) → Type 0
Splits s pieces = (b : ℕ) (bs : List ℕ) → pieces (b ∷ bs) ≡ cond (eqb b s) ([] ∷ pieces bs) (start b (pieces bs))

-- the pieces between the marks s have no s
module _ (s : ℕ) (pieces : List ℕ → List (List ℕ)) (by : Splits s pieces) (none : AllByRecursion (Free s) (pieces [])) where
  pieces_free : (text : List ℕ) → AllByRecursion (Free s) (pieces text)
  pieces_free [] = none
  pieces_free (b ∷ bs) = at (eqb b s) refl (pieces_free bs)
    where
      at : (t : Bool) → eqb b s ≡ t → AllByRecursion (Free s) (pieces bs) → AllByRecursion (Free s) (pieces (b ∷ bs))
      at true e a = subst (AllByRecursion (Free s)) (sym (by b bs ∙ cond-true (eqb b s) ([] ∷ pieces bs) (start b (pieces bs)) e)) (tt, a)
      at false e a = subst (AllByRecursion (Free s)) (sym (by b bs ∙ cond-false (eqb b s) ([] ∷ pieces bs) (start b (pieces bs)) e)) (free_start s b (pieces bs) (eqb-false b s e) a)

-- lines that each end with a line feed
lines-page : (ls : List (List ℕ)) → AllByRecursion (Free 10) ls → lines (page ls) ≡ ls
lines-page [] f = refl
lines-page (l ∷ ls) f = ap lines (append_assoc l (10 ∷ []) (page ls)) ∙ lines-front l (page ls) f.0 ∙ ap (λ x. l ∷ x) (lines-page ls f.1)

-- a line feed more
start_more : (b : ℕ) (ls ms : List (List ℕ)) → 0 < length ls → start b (ls ++ ms) ≡ start b ls ++ ms
start_more b [] ms h = absurd (omega arith)
start_more b (l ∷ ls) ms h = refl

some_line : (b : ℕ) (bs : List ℕ) → 0 < length (lines (b ∷ bs))
some_line b bs = at (eqb b 10) (lines bs)
  where
    at : (t : Bool) (ls : List (List ℕ)) → 0 < length (cond t ([] ∷ ls) (start b ls))
    at true ls = omega arith
    at false [] = omega arith
    at false (l ∷ ls) = omega arith

more_after : (b : ℕ) (bs : List ℕ) → lines ((b ∷ bs) ++ 10 ∷ []) ≡ cond (eqb (last b bs) 10) (lines (b ∷ bs) ++ [] ∷ []) (lines (b ∷ bs))
more_after b [] = at (eqb b 10)
  where
    at : (t : Bool) → cond t ([] ∷ [] ∷ []) ((b ∷ []) ∷ []) ≡ cond t (cond t ([] ∷ []) ((b ∷ []) ∷ []) ++ [] ∷ []) (cond t ([] ∷ []) ((b ∷ []) ∷ []))
    at true = refl
    at false = refl
more_after b (d ∷ bs) = at (eqb b 10) (eqb (last d bs) 10) (more_after d bs)
  where
    at : (t u : Bool) → lines ((d ∷ bs) ++ 10 ∷ []) ≡ cond u (lines (d ∷ bs) ++ [] ∷ []) (lines (d ∷ bs)) → cond t ([] ∷ lines ((d ∷ bs) ++ 10 ∷ [])) (start b (lines ((d ∷ bs) ++ 10 ∷ []))) ≡ cond u (cond t ([] ∷ lines (d ∷ bs)) (start b (lines (d ∷ bs))) ++ [] ∷ []) (cond t ([] ∷ lines (d ∷ bs)) (start b (lines (d ∷ bs))))
    at true true e = ap (λ x. [] ∷ x) e
    at true false e = ap (λ x. [] ∷ x) e
    at false true e = ap (start b) e ∙ start_more b (lines (d ∷ bs)) ([] ∷ []) (some_line d bs)
    at false false e = ap (start b) e

one_more : (text : List ℕ) → lines (text ++ 10 ∷ []) ≡ cond (ended text) (lines text ++ [] ∷ []) (lines text)
one_more [] = refl
one_more (b ∷ bs) = more_after b bs

last_push : {X : Type 0} (d x : X) (xs : List X) → last d (xs ++ x ∷ []) ≡ x
last_push d x [] = refl
last_push d x (y ∷ ys) = last_push y x ys

only : (text : List ℕ) (ls : List (List ℕ)) → AllByRecursion (Free 10) ls → MadeOf ls text → lines text ≡ ls
only text ls f m = ⊎_elim (λ e. ap lines (sym e) ∙ lines-page ls f) (λ e. lacks (ended text) (one_more text) e.0 e.1) m
  where
    lacks : (t : Bool) → lines (text ++ 10 ∷ []) ≡ cond t (lines text ++ [] ∷ []) (lines text) → page ls ≡ text ++ 10 ∷ [] → 0 < length (last [] ls) → lines text ≡ ls
    lacks true o e h =
        let same : lines text ++ [] ∷ [] ≡ ls = sym o ∙ ap lines (sym e) ∙ lines-page ls f in
        let empty : last [] ls ≡ [] = ap (last []) (sym same) ∙ last_push [] [] (lines text) in
        absurd (omega (arith, h, ap length empty))
    lacks false o e h = sym o ∙ ap lines (sym e) ∙ lines-page ls f

made_feed : (bs : List ℕ) (ls : List (List ℕ)) → MadeOf ls bs → MadeOf ([] ∷ ls) (10 ∷ bs)
made_feed bs [] m = ⊎_elim (λ e. inl (ap (λ x. 10 ∷ x) e)) (λ e. absurd (omega (arith, e.1))) m
made_feed bs (l ∷ ls) m = ⊎_elim (λ e. inl (ap (λ x. 10 ∷ x) e)) (λ e. inr (ap (λ x. 10 ∷ x) e.0, e.1)) m

made_start : (b : ℕ) (bs : List ℕ) (ls : List (List ℕ)) → MadeOf ls bs → MadeOf (start b ls) (b ∷ bs)
made_start b bs [] m = ⊎_elim (λ e. inr (ap (λ x. b ∷ x ++ 10 ∷ []) e, omega arith)) (λ e. absurd (omega (arith, e.1))) m
made_start b bs (l ∷ []) m = ⊎_elim (λ e. inl (ap (λ x. b ∷ x) e)) (λ e. inr (ap (λ x. b ∷ x) e.0, omega arith)) m
made_start b bs (l ∷ k ∷ ls) m = ⊎_elim (λ e. inl (ap (λ x. b ∷ x) e)) (λ e. inr (ap (λ x. b ∷ x) e.0, e.1)) m

made : (text : List ℕ) → MadeOf (lines text) text
made [] = inl refl
made (b ∷ bs) = at (eqb b 10) refl (made bs)
  where
    at : (t : Bool) → eqb b 10 ≡ t → MadeOf (lines bs) bs → MadeOf (cond t ([] ∷ lines bs) (start b (lines bs))) (b ∷ bs)
    at true e m = subst (λ k. MadeOf ([] ∷ lines bs) (k ∷ bs)) (sym (eqb-true b 10 e)) (made_feed bs (lines bs) m)
    at false e m = made_start b bs (lines bs) m

pub lines_law : LinesLaw
lines_law = record { free = pieces_free 10 lines (λ b bs. refl) tt; made = made; only = only; one_more = one_more }

-- words
words_only : (w : List ℕ) (ws : List (List ℕ)) → AllByRecursion (Free 32) (w ∷ ws) → words (w ++ blank_before ws) ≡ w ∷ ws
words_only w [] f = ap words (append-nil w) ∙ whole_word w f.0
words_only w (v ∷ ws) f = words-front w (v ++ blank_before ws) f.0 ∙ ap (λ x. w ∷ x) (words_only v ws f.1)

abbrev Spaced : List ℕ → List (List ℕ) → Type 0
Spaced line all = (w : List ℕ) × (ws : List (List ℕ)) × (all ≡ w ∷ ws) × (line ≡ w ++ blank_before ws)

spaced : (line : List ℕ) → Spaced line (words line)
spaced [] = ([], [], refl, refl)
spaced (b ∷ bs) = at (eqb b 32) refl (spaced bs)
  where
    at : (t : Bool) → eqb b 32 ≡ t → Spaced bs (words bs) → Spaced (b ∷ bs) (cond t ([] ∷ words bs) (start b (words bs)))
    at true e m = ([], words bs, refl, ap (λ k. k ∷ bs) (eqb-true b 32 e) ∙ ap (λ x. 32 ∷ x) m.3 ∙ ap blank_before (sym m.2))
    at false e m = (b ∷ m.0, m.1, ap (start b) m.2, ap (λ x. b ∷ x) m.3)

words_made : (line : List ℕ) → (w : List ℕ) × (ws : List (List ℕ)) × (words line ≡ w ∷ ws) × (line ≡ w ++ blank_before ws) × AllByRecursion (Free 32) (w ∷ ws)
words_made line =
    let m = spaced line in
    (m.0, m.1, m.2, m.3, subst (AllByRecursion (Free 32)) m.2 (pieces_free 32 words (λ b bs. refl) (tt, tt) line))

pub words_law : WordsLaw
words_law = record { made = words_made; only = words_only }
