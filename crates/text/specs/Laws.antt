-- What the lines of a text and the words of a line are, in terms of the text that is put together from them.
use Rattle.std.specs.Prelude.{◌≡◌, ℕ, ◌<◌, Bool, cond, ◌⊎◌, List, [], ◌∷◌, ◌++◌, length, ◌==◌, ◌≢◌}
use Rattle.std.specs.List.{flat_map, AllByRecursion}
use Rattle.text.specs.Split.{lines, words}

-- s stands nowhere in the piece
abbrev pub Free : ℕ → List ℕ → Type 0
Free s piece = AllByRecursion (λ b. b ≢ s) piece

-- the last of some elements, or d where there is none
abbrev pub last : {X : Type 0} → X → List X → X
last d [] = d
last d (x ∷ xs) = last x xs

-- each line, followed by a line feed
abbrev pub page : List (List ℕ) → List ℕ
page ls = flat_map (λ l. l ++ 10 ∷ []) ls

-- the text is the lines, each followed by a line feed, which the last one may lack if it is not empty
abbrev pub MadeOf : List (List ℕ) → List ℕ → Type 0
MadeOf ls text = (page ls ≡ text) ⊎ ((page ls ≡ text ++ 10 ∷ []) × (0 < length (last [] ls)))

-- the text is empty or ends with a line feed
abbrev pub ended : List ℕ → Bool
ended text = last 10 text == 10

pub record LinesLaw : Type 0 where
  -- no line has a line feed
  pub free : (text : List ℕ) → AllByRecursion (Free 10) (lines text)
  -- a text is made of its lines
  pub made : (text : List ℕ) → MadeOf (lines text) text
  -- and of no other lines
  pub only : (text : List ℕ) (ls : List (List ℕ)) → AllByRecursion (Free 10) ls → MadeOf ls text → lines text ≡ ls
  -- one line feed more at the end changes the lines, by an empty one, just where the text was empty or ended with one
  pub one_more : (text : List ℕ) → lines (text ++ 10 ∷ []) ≡ cond (ended text) (lines text ++ [] ∷ []) (lines text)

-- a blank and then the piece, for each of some pieces
abbrev pub blank_before : List (List ℕ) → List ℕ
blank_before ws = flat_map (λ w. 32 ∷ w) ws

pub record WordsLaw : Type 0 where
  -- a line is its first word and then, for each further one, a blank and the word; no word has a blank
  pub made : (line : List ℕ) → (w : List ℕ) × (ws : List (List ℕ)) × (words line ≡ w ∷ ws) × (line ≡ w ++ blank_before ws) × AllByRecursion (Free 32) (w ∷ ws)
  -- and it is made so of no other words
  pub only : (w : List ℕ) (ws : List (List ℕ)) → AllByRecursion (Free 32) (w ∷ ws) → words (w ++ blank_before ws) ≡ w ∷ ws
