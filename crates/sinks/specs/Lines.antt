-- The lines of clauses, and the clauses that a text of such lines holds.
use Rattle.std.specs.Prelude.{◌≡◌, ℕ, ◌+◌, ◌-◌, ◌*◌, ◌/◌, ◌<◌, ◌≤◌, min, Bool, true, false, cond, ◌&&◌, ◌↔◌, List, [], ◌∷◌, ◌++◌, length, take, drop, Some, None, decimal, Option, ◌==◌, nat_le, slice_index_or}
use Rattle.std.specs.List.{flat_map}
use Rattle.std.specs.Str.{all_ascii_digits}
use Rattle.cnf.specs.declared.clause.Literal.{Literal}
use Rattle.cnf.specs.Clauses.{Assignment, Clause, Clauses, sat_all, all_in_range}

-- the number that digits say behind the digits of n
abbrev pub said : ℕ → List ℕ → ℕ
said n [] = n
said n (b ∷ bs) = said (10 * n + (b - 48)) bs

-- the decimal digits of n: one at least, and a leading zero only in 0
pub record Numeral (n : ℕ) (ds : List ℕ) : Type 0 where
  pub digits : all_ascii_digits ds ≡ true
  pub some : 0 < length ds
  pub plain : slice_index_or ds 0 0 ≡ 48 → length ds ≡ 1
  pub value : said 0 ds ≡ n

abbrev pub sign : Bool → List ℕ
sign true = []
sign false = 45 ∷ []

-- a literal: a minus sign where it is negative, the variable in decimal, and a blank
abbrev pub literal_text : Literal → List ℕ
literal_text l = sign l.positive ++ (decimal l.variable ++ (32 ∷ []))

-- a clause: its literals, then 0 and a line feed
abbrev pub line : Clause → List ℕ
line c = flat_map literal_text c ++ (48 ∷ (10 ∷ []))

-- a word, two numbers with a blank between them, and a line feed
abbrev pub pair_line : List ℕ → ℕ → ℕ → List ℕ
pair_line word a b = word ++ (decimal a ++ (32 ∷ (decimal b ++ (10 ∷ []))))

-- s with xs written over it from the index a on
abbrev pub over : List ℕ → ℕ → List ℕ → List ℕ
over s a xs = take a s ++ (xs ++ drop (a + length xs) s)

-- the digits of n were written at the index a, and the writing ended at the index e
pub record WroteNumeral (n a : ℕ) (s t : List ℕ) (e : ℕ) : Type 0 where
  pub ds : List ℕ
  pub numeral : Numeral n ds
  pub area : t ≡ over s a ds
  pub end : e ≡ a + length ds

-- where the reading of a line stands
pub data Place : Type 0 where
  -- before a literal or the closing 0
  between : Place
  -- behind a minus sign
  minus : Place
  -- behind a digit of a literal that is positive or not, by what its digits say so far
  number : Bool → ℕ → Place
  -- behind the closing 0
  closed : Place

abbrev pub no_literal : Clause → Bool
no_literal [] = true
no_literal (l ∷ ls) = false

abbrev pub before : Clause → Option Clauses → Option Clauses
before c None = None
before c (Some cs) = Some (c ∷ cs)

-- The clauses of a text, where c has the literals of this line so far. None where the text is not made of whole lines,
-- each with numbers from 1 to 9999 that have no leading zero and a blank behind them, then 0 and a line feed.
unfoldable pub read_from : Clause → Place → List ℕ → Option Clauses
read_from c between [] = cond (no_literal c) (Some []) None
read_from c minus [] = None
read_from c (number p n) [] = None
read_from c closed [] = None
read_from c between (b ∷ bs) =
    cond (b == 45) (read_from c minus bs)
    (cond (b == 48) (read_from c closed bs)
    (cond (nat_le 49 b && nat_le b 57) (read_from c (number true (b - 48)) bs) None))
read_from c minus (b ∷ bs) = cond (nat_le 49 b && nat_le b 57) (read_from c (number false (b - 48)) bs) None
read_from c (number p n) (b ∷ bs) =
    cond (b == 32) (read_from (c ++ (record { variable = n; positive = p } ∷ [])) between bs)
    (cond ((nat_le 48 b && nat_le b 57) && nat_le (10 * n + (b - 48)) 9999) (read_from c (number p (10 * n + (b - 48))) bs) None)
read_from c closed (b ∷ bs) = cond (b == 10) (before c (read_from [] between bs)) None

abbrev pub read : List ℕ → Option Clauses
read text = read_from [] between text

-- a text holds just the clauses whose lines it is made of
abbrev pub LinesExact : Type 0
LinesExact = (text : List ℕ) (cs : Clauses) → (read text ≡ Some cs) ↔ ((text ≡ flat_map line cs) × (all_in_range 9999 cs ≡ true))

-- every line of the text is true
abbrev pub all_true : Assignment → Option Clauses → Bool
all_true α None = false
all_true α (Some cs) = sat_all α cs

abbrev pub has_clauses : ℕ → Option Clauses → Bool
has_clauses n None = false
has_clauses n (Some cs) = length cs == n

-- the free cells of an area of some length, of which some bytes are used
abbrev pub writer_cells : ℕ → ℕ → ℕ
writer_cells len used = (min len 16777216 - used) / 6

-- the used bytes of an area are whole lines, as many as were taken
abbrev pub Written : List ℕ → ℕ → ℕ → Type 0
Written area used taken =
    (used ≤ length area) × (used ≤ 16777216) × (2 * taken ≤ used) × (has_clauses taken (read (take used area)) ≡ true)
