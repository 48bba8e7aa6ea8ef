-- Laws of the lines of a text and the words of a line.
use Rattle.std.specs.Prelude.{position, MatchOption}
use Rattle.std.specs.Option.{option_or}
use Rattle.std.specs.Borrow.{Bor}
use Rattle.std.specs.List.{position_or_len}
use Rattle.std.proofs.Common.{◌≡◌, ℕ, suc, ◌+◌, ◌-◌, ◌<◌, ◌≤◌, Bool, true, false, cond, eqb, ltb, List, [], ◌∷◌, ◌++◌, length, get_or, take, drop, Some, None, Option, sym, refl, ap, ◌∙◌, subst, take-append-drop, length-append, arith}
use Rattle.std.proofs.lemmas.List.{take_rest, take_all, drop_more, get_or-take, length-take-le}
use Rattle.std.proofs.lemmas.Bool.{cond-false, ne_eqb, eqb-true, eqb-false, ltb-false}
use Rattle.std.proofs.lemmas.List.Elements.{recursion_from_All}
use Rattle.std.proofs.lemmas.List.Sums.{fails_before_first}
use Rattle.std.proofs.lemmas.List.Quantifiers.{position-Some}
use Rattle.text.specs.Split.{start, lines, words}
use Rattle.text.specs.Laws.{Free}

module _ (s : ℕ) (bs : List ℕ) where
  -- what stands before the place i has no s, if none of these characters is one
  free_before : (i : ℕ) → i ≤ length bs → ((k d : ℕ) → k < i → eqb (get_or bs k d) s ≡ false) → Free s (take i bs)
  free_before i l h =
      recursion_from_All (λ b. b ≡ s → ⊥) (take i bs)
      (λ k d m e. let lt : k < i = omega (arith, m, length-take-le i bs l) in eqb-false (get_or bs k d) s (h k d lt) (sym (get_or-take i bs k d lt) ∙ e))

  -- what is cut at the first s, by the place behind it
  pub cut_at : (i j : ℕ) → position (λ b. eqb b s) bs ≡ Some i → j ≡ i + 1 → Free s (take i bs) × (bs ≡ take i bs ++ s ∷ take (length bs - j) (drop j bs))
  cut_at i j e n =
      let p = position-Some (λ b. eqb b s) bs i 0 e in (
        free_before i (omega (arith, p.0)) (λ k d l. (position-Some (λ b. eqb b s) bs i d e).2 k l),
        sym (take-append-drop i bs)
            ∙ ap (λ l. take i bs ++ l) (drop_more bs i 0 p.0 ∙ ap (λ b. b ∷ drop (i + 1) bs) (eqb-true (get_or bs i 0) s p.1))
            ∙ ap (λ k. take i bs ++ s ∷ drop k bs) (sym n)
            ∙ ap (λ l. take i bs ++ s ∷ l) (sym (take_rest bs j)),
      )

  pub whole : position (λ b. eqb b s) bs ≡ None → Free s bs
  whole e = at (ltb (position_or_len (λ b. eqb b s) bs) (length bs)) refl e
    where
      at : (t : Bool) → ltb (position_or_len (λ b. eqb b s) bs) (length bs) ≡ t → cond t (Some (position_or_len (λ b. eqb b s) bs)) None ≡ None → Free s bs
      at true q e = let z : ◌≡◌ {A = ℕ} 0 1 = cc in absurd (omega arith)
      at false q e =
          let l = ltb-false _ _ q in
          subst (Free s) (take_all (length bs) bs (omega arith))
          (free_before (length bs) (omega arith) (λ k d m. fails_before_first (λ b. eqb b s) bs k d (omega arith)))

-- a line that ends with a line feed, and the others
pub lines-front : (l t : List ℕ) → Free 10 l → lines (l ++ 10 ∷ t) ≡ l ∷ lines t
lines-front [] t f = refl
lines-front (b ∷ bs) t f = cond-false (eqb b 10) _ _ (ne_eqb b 10 f.0) ∙ ap (start b) (lines-front bs t f.1)

-- a last line that lacks its line feed
pub whole_line : (l : List ℕ) → Free 10 l → 0 < length l → lines l ≡ l ∷ []
whole_line [] f h = absurd (omega arith)
whole_line (b ∷ []) f h = cond-false (eqb b 10) _ _ (ne_eqb b 10 f.0)
whole_line (b ∷ d ∷ bs) f h = cond-false (eqb b 10) _ _ (ne_eqb b 10 f.0) ∙ ap (start b) (whole_line (d ∷ bs) f.1 (omega arith))

-- what a text is cut into at its first line feed
pub first_line : (text : List ℕ) (parts : Option (Bor (List ℕ) × Bor (List ℕ))) (all : Bor (List ℕ) × Bor (List ℕ)) → all.0.now ≡ text → all.1.now ≡ [] → 0 < length text → MatchOption parts (Free 10 text) (λ p. Free 10 p.0.now × (text ≡ p.0.now ++ 10 ∷ p.1.now)) → MatchOption (option_or parts (Some all)) (text ≡ []) (λ p. (lines text ≡ p.0.now ∷ lines p.1.now) × (length p.1.now < length text))
first_line text None all w n h f = (whole_line text f h ∙ ap (λ l. l ∷ []) (sym w) ∙ ap (λ t. all.0.now ∷ lines t) (sym n), omega (arith, h, ap length n))
first_line text (Some p) all w n h f =
    (ap lines f.1 ∙ lines-front p.0.now p.1.now f.0, omega (arith, ap length f.1, length-append p.0.now (10 ∷ p.1.now)))

-- a word that a blank ends, and the others
pub words-front : (w t : List ℕ) → Free 32 w → words (w ++ 32 ∷ t) ≡ w ∷ words t
words-front [] t f = refl
words-front (b ∷ bs) t f = cond-false (eqb b 32) _ _ (ne_eqb b 32 f.0) ∙ ap (start b) (words-front bs t f.1)

pub whole_word : (w : List ℕ) → Free 32 w → words w ≡ w ∷ []
whole_word [] f = refl
whole_word (b ∷ bs) f = cond-false (eqb b 32) _ _ (ne_eqb b 32 f.0) ∙ ap (start b) (whole_word bs f.1)

-- each line but a last empty one takes a character
length-start : (b : ℕ) (ls : List (List ℕ)) → length (start b ls) ≤ suc (length ls)
length-start b [] = omega arith
length-start b (l ∷ ls) = omega arith

pub few_lines : (text : List ℕ) → length (lines text) ≤ length text
few_lines [] = omega arith
few_lines (b ∷ bs) = at (eqb b 10) (few_lines bs)
  where
    at : (t : Bool) → length (lines bs) ≤ length bs → length (cond t ([] ∷ lines bs) (start b (lines bs))) ≤ suc (length bs)
    at true h = omega arith
    at false h = omega (arith, length-start b (lines bs))
