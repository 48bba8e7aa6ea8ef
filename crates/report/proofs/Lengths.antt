-- How long the texts are, and one letter more.
use Rattle.std.proofs.Common.{◌≡◌, ℕ, zero, suc, ◌+◌, ◌*◌, ◌^◌, ◌<◌, ◌≤◌, List, [], ◌∷◌, ◌++◌, length, get_or, take, codes, decimal, sym, refl, ap, ◌∙◌, append_assoc, add-zero, arith, length-append}
use Rattle.std.proofs.lemmas.List.{take_more, length-take-le, append-nil}
use Rattle.std.proofs.lemmas.Fmt.{length-decimal-le}
use Rattle.bounded.specs.Items.{items}
use Rattle.sinks.specs.Lines.{pair_line}
use Rattle.sinks.proofs.Over.{pair_long}
use Rattle.report.specs.declared.outcome.ShownRun.{ShownRun}
use Rattle.report.specs.Texts.{out_text, letter_line, letter_lines, run_line, bound, run_text}

length_take_most : (n : ℕ) (xs : List ℕ) → length (take n xs) ≤ n
length_take_most zero xs = omega arith
length_take_most (suc n) [] = omega arith
length_take_most (suc n) (x ∷ xs) = omega (arith, length_take_most n xs)

pub out_long : (n : ℕ) → length (out_text n) ≡ length (decimal n) + 8
out_long n = omega (arith, length-append (codes "NOT IN ") (decimal n ++ (10 ∷ [])), length-append (decimal n) (10 ∷ []))

pub letter_long : (i x : ℕ) → length (letter_line i x) ≡ 15
unfolding letter_line
letter_long i x = refl

pub run_long : (k l : ℕ) → length (run_line k l) ≡ 9
unfolding run_line
run_long k l = refl

pub lines_long : (i : ℕ) (xs : List ℕ) → length (letter_lines i xs) ≡ 15 * length xs
lines_long i [] = refl
lines_long i (x ∷ xs) = omega (arith, length-append (letter_line i x) (letter_lines (suc i) xs), letter_long i x, lines_long (suc i) xs)

-- the lines of one letter more
lines_push : (i : ℕ) (xs : List ℕ) (x : ℕ) → letter_lines i (xs ++ (x ∷ [])) ≡ letter_lines i xs ++ letter_line (i + length xs) x
lines_push i [] x = append-nil (letter_line i x) ∙ ap (λ n. letter_line n x) (sym (add-zero i))
lines_push i (y ∷ xs) x =
    let e : suc i + length xs ≡ i + length (y ∷ xs) = omega arith in
    ap (λ ls. letter_line i y ++ ls) (lines_push (suc i) xs x ∙ ap (λ n. letter_lines (suc i) xs ++ letter_line n x) e)
    ∙ sym (append_assoc (letter_line i y) (letter_lines (suc i) xs) (letter_line (i + length (y ∷ xs)) x))

pub lines_more : (xs : List ℕ) (n : ℕ) → n < length xs → letter_lines 0 (take (n + 1) xs) ≡ letter_lines 0 (take n xs) ++ letter_line n (get_or xs n 0)
lines_more xs n h =
    let e : 0 + length (take n xs) ≡ n = omega (arith, length-take-le n xs (omega arith)) in
    ap (letter_lines 0) (take_more xs n 0 h) ∙ lines_push 0 (take n xs) (get_or xs n 0)
    ∙ ap (λ m. letter_lines 0 (take n xs) ++ letter_line m (get_or xs n 0)) e

-- each text fits
pub refusal_short : (number line : ℕ) → number < 2 ^ 32 → line < 2 ^ 64 → length (pair_line (codes "REFUSED ") number line) ≤ 40
refusal_short number line h k =
    omega (arith, pair_long (codes "REFUSED ") number line, length-decimal-le 10 number (omega arith) (omega arith) (omega arith), length-decimal-le 20 line (omega arith) (omega arith) k)

pub out_short : (n : ℕ) → n < 2 ^ 64 → length (out_text n) ≤ 28
out_short n h = omega (arith, out_long n, length-decimal-le 20 n (omega arith) (omega arith) h)

pub run_short : (x : ShownRun) → length (run_text x) ≤ 489
run_short x =
    omega (arith, length-append (run_line (bound x) x.start) (letter_lines 0 (items x.letters)), run_long (bound x) x.start, lines_long 0 (items x.letters), length_take_most x.letters.len x.letters.places, x.letters.few)
