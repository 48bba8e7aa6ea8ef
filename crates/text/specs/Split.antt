-- The lines of a text and the words of a line.
use Rattle.std.specs.Prelude.{ℕ, Bool, false, cond, List, [], ◌∷◌, Some, None, Option, ◌==◌}
use Rattle.std.specs.Borrow.{Bor}

-- a character in front of the first piece
abbrev pub start : ℕ → List (List ℕ) → List (List ℕ)
start b [] = (b ∷ []) ∷ []
start b (l ∷ ls) = (b ∷ l) ∷ ls

-- a line feed ends a line; the last line may lack it, and an empty text has no line
abbrev pub lines : List ℕ → List (List ℕ)
lines [] = []
lines (b ∷ bs) = cond (b == 10) ([] ∷ lines bs) (start b (lines bs))

-- what stands before, between and after the single blanks of a line: one piece more than blanks
abbrev pub words : List ℕ → List (List ℕ)
words [] = [] ∷ []
words (b ∷ bs) = cond (b == 32) ([] ∷ words bs) (start b (words bs))

-- does a line start with c?
abbrev pub comment : List ℕ → Bool
comment [] = false
comment (b ∷ bs) = b == 99

-- the lines that are not passed over
abbrev pub kept : List (List ℕ) → List (List ℕ)
kept [] = []
kept (l ∷ ls) = cond (comment l) (kept ls) (l ∷ kept ls)

-- the words of a part that may lack
abbrev pub words_of : Option (Bor (List ℕ)) → List (List ℕ)
words_of None = []
words_of (Some t) = words t.now
