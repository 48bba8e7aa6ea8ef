-- What is left of the v lines, from one step of reading to the next.
use Rattle.std.proofs.Common.{◌≡◌, ℕ, ◌<◌, ◌≤◌, List, [], ◌∷◌, ◌++◌, length, get_or, Some, None, Ok, Option, MatchOption, codes, sym, refl, ap, ◌∙◌, arith}
use Rattle.std.specs.Borrow.{Bor}
use Rattle.cnf.specs.declared.clause.Literal.{Literal}
use Rattle.text.specs.declared.words.Words.{Words}
use Rattle.text.specs.Split.{words}
use Rattle.text.specs.Left.{kept_left, words_left}
use Rattle.text.proofs.Pieces.{words_law}
use Rattle.answers.specs.declared.literals.Literals.{Literals}
use Rattle.answers.specs.Words.{number}
use Rattle.answers.specs.Reading.{front, join, each, after_v, numbers}
use Rattle.answers.specs.Grammar.{v_line}
use Rattle.answers.specs.Left.{words_in, TakesWord}
use Rattle.answers.proofs.Forms.{only_law}

-- a line is a v line just where it starts with "v "
numbers_after_v : (t : List ℕ) → after_v (words (codes "v " ++ t)) ≡ each (words t)
numbers_after_v t = let p = words_law.made t in ap (λ ws. after_v (codes "v" ∷ ws)) p.2 ∙ ap each (sym p.2)

pub no_v_line : (l : List ℕ) → (2 ≤ length l → get_or l 0 0 ≡ 118 → get_or l 1 0 ≡ 32 → ⊥) → after_v (words l) ≡ None
no_v_line l n = at (after_v (words l)) refl
  where
    starts : (ns : List Literal) → l ≡ v_line ns → 0 < length ns → ⊥
    starts [] e h = omega arith
    starts (m ∷ ms) e h = n (omega (arith, ap length e)) (ap (λ x. get_or x 0 0) e) (ap (λ x. get_or x 1 0) e)

    at : (o : Option (List Literal)) → after_v (words l) ≡ o → o ≡ None
    at None e = refl
    at (Some ns) e = let p = only_law l ns e in absurd (starts ns p.0 p.1)

-- the numbers of lines of which the first is a v line
pub opened : (ls rest : List (List ℕ)) (l t : List ℕ) → ls ≡ l ∷ rest → l ≡ codes "v " ++ t → numbers ls ≡ join (each (words t)) (numbers rest)
opened ls rest l t e d = ap numbers (e ∙ ap (λ x. x ∷ rest) d) ∙ ap (λ o. join o (numbers rest)) (numbers_after_v t)

pub join_nil : (o : Option (List Literal)) → join (Some []) o ≡ o
join_nil None = refl
join_nil (Some ns) = refl

pub join_front : (n : Option Literal) (o tail : Option (List Literal)) → join (front n o) tail ≡ front n (join o tail)
join_front None o tail = refl
join_front (Some n) None tail = refl
join_front (Some n) (Some ms) None = refl
join_front (Some n) (Some ms) (Some ns) = refl

-- where a line has ended, the next word is the first one of the numbers of the next line
pub next_begun : (before after : Literals) (l t : List ℕ) (it : Words) (o : Option (Bor (List ℕ))) → words_left before.words ≡ [] → kept_left before.lines ≡ l ∷ kept_left after.lines → l ≡ codes "v " ++ t → words_left it ≡ words t → MatchOption o ((words_left it ≡ []) × (words_left after.words ≡ [])) (λ w. words_left it ≡ w.now ∷ words_left after.words) → TakesWord before (Ok o) after
next_begun before after l t it None a b d e s = let p = words_law.made t in absurd (let z : [] ≡ p.0 ∷ p.1 = sym s.0 ∙ e ∙ p.2 in cc)
next_begun before after l t it (Some w) a b d e s =
    let rest = numbers (kept_left after.lines) in
    let first : words t ≡ w.now ∷ words_left after.words = sym e ∙ s in
    let long : length (words l) ≡ length (words (codes "v " ++ t)) = ap (λ x. length (words x)) d in (
      ap (λ ws. join (each ws) (numbers (kept_left before.lines))) a
          ∙ join_nil (numbers (kept_left before.lines))
          ∙ opened (kept_left before.lines) (kept_left after.lines) l t b d
          ∙ ap (λ ws. join (each ws) rest) first
          ∙ join_front (number w.now) (each (words_left after.words)) rest,
      omega (arith, ap length a, ap words_in b, long, ap length first),
    )
