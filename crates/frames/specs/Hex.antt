-- Hexadecimal digits: 0 to 9 and the capital letters A to F.
use Rattle.std.specs.Prelude.{ℕ, suc, ◌+◌, ◌*◌, ◌<◌, Bool, true, cond, ◌&&◌, List, [], ◌∷◌, is_some, Some, None, codes, Option, ◌==◌, slice_index}

-- the digits, each at the number that it stands for
abbrev pub digits : List ℕ
digits = codes "0123456789ABCDEF"

-- the digit of a number below 16
abbrev pub digit : ℕ → ℕ
digit n = slice_index digits n

-- the place of a character in a list, counted from i
abbrev pub place : List ℕ → ℕ → ℕ → Option ℕ
place [] i c = None
place (x ∷ xs) i c = cond (c == x) (Some i) (place xs (suc i) c)

-- what a character stands for
abbrev pub worth : ℕ → Option ℕ
worth c = place digits 0 c

abbrev pub all_digits : List ℕ → Bool
all_digits [] = true
all_digits (c ∷ cs) = is_some (worth c) && all_digits cs

abbrev pub join : Option ℕ → Option ℕ → Option ℕ
join (Some h) (Some l) = Some (16 * h + l)
join (Some h) None = None
join None (Some l) = None
join None None = None

-- the byte of two characters
abbrev pub byte : ℕ → ℕ → Option ℕ
byte high low = join (worth high) (worth low)

abbrev pub front : Option ℕ → Option (List ℕ) → Option (List ℕ)
front None rest = None
front (Some b) None = None
front (Some b) (Some bs) = Some (b ∷ bs)

-- the bytes of a line, where it is an even number of digits
abbrev pub bytes : List ℕ → Option (List ℕ)
bytes [] = Some []
bytes (c ∷ []) = None
bytes (h ∷ l ∷ rest) = front (byte h l) (bytes rest)

abbrev pub or_empty : Option (List ℕ) → List ℕ
or_empty None = []
or_empty (Some bs) = bs

-- the bytes of such a line; of any other no byte
abbrev pub decoded : List ℕ → List ℕ
decoded line = or_empty (bytes line)

-- each is a byte
abbrev pub Bytes : List ℕ → Type 0
Bytes [] = Unit {0}
Bytes (b ∷ bs) = (b < 256) × Bytes bs
