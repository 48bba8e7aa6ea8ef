-- What is asked of a line, and the record of a line.
use Rattle.std.specs.Prelude.{ℕ, ◌%◌, Bool, ◌&&◌, List, [], ◌∷◌, ◌++◌, length, Ok, Err, sum, Result, ◌==◌, nat_le, slice_index}
use Rattle.cnf.specs.Questions.{Question, ask, first_no}
use Rattle.frames.specs.declared.refusals.Refusal.{Refusal}
use Rattle.frames.specs.declared.refusals.Refusal.TheVariants.{Digits, Sum, Kind, Length}
use Rattle.frames.specs.Hex.{all_digits, decoded}
use Rattle.frames.specs.Layouts.{Layout}

abbrev pub mapped : {X Y E : Type 0} → (X → Y) → Result X E → Result Y E
mapped f (Ok x) = Ok (f x)
mapped f (Err e) = Err e

-- an even number, 6 to 14
abbrev pub frame_length : ℕ → Bool
frame_length n = nat_le 6 n && (nat_le n 14 && n % 2 == 0)

-- the sum of the bytes is a multiple of 256
abbrev pub closed : List ℕ → Bool
closed bs = sum bs % 256 == 0

-- questions 1 and 2
abbrev pub line_asks : List ℕ → List (Question Refusal)
line_asks line = ask (frame_length (length line) && all_digits line) Digits ∷ ask (closed (decoded line)) Sum ∷ []

-- questions 3 and 4, of the bytes, for one kind
abbrev pub kind_asks : {R : Type 0} → Layout R → List ℕ → List (Question Refusal)
kind_asks k bs = ask (slice_index bs 0 == k.code) Kind ∷ ask (length bs == k.size) Length ∷ []

-- the bytes of a line, by the first two questions
abbrev pub framed : List ℕ → Result (List ℕ) Refusal
framed line = first_no (line_asks line) (decoded line)

-- the record of a line, by all four
abbrev pub reading : {R : Type 0} → Layout R → List ℕ → Result R Refusal
reading k line = first_no (line_asks line ++ kind_asks k (decoded line)) (k.fields (decoded line))
