-- What is written: a frame closed by its check byte, and the line of its bytes.
use Rattle.std.specs.Prelude.{ℕ, ◌-◌, ◌/◌, ◌%◌, List, [], ◌∷◌, ◌++◌, sum}
use Rattle.frames.specs.Hex.{digit}
use Rattle.frames.specs.Layouts.{Layout}

-- the line of some bytes: two digits each
abbrev pub spelled : List ℕ → List ℕ
spelled [] = []
spelled (b ∷ bs) = digit (b / 16) ∷ digit (b % 16) ∷ spelled bs

-- the byte that makes the sum a multiple of 256
abbrev pub check : List ℕ → ℕ
check bs = (256 - sum bs % 256) % 256

abbrev pub sealed : List ℕ → List ℕ
sealed bs = bs ++ check bs ∷ []

-- the line of a record
abbrev pub written : {R : Type 0} → Layout R → R → List ℕ
written k x = spelled (sealed (k.code ∷ k.laid x))
