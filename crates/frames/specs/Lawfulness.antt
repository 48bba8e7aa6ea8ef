-- In each kind the record and its bytes give each other.
use Rattle.std.specs.Prelude.{◌≡◌, ℕ, zero, suc, ◌+◌, ◌*◌, ◌/◌, ◌%◌, ◌^◌, ◌<◌, List, [], ◌∷◌, ◌++◌, length, drop, slice_index, slice_index_or, refl}
use Rattle.std.proofs.Common.{ap, ◌∙◌, arith, lit<, lit≤}
use Rattle.std.proofs.lemmas.List.{drop_more, drop_all}
use Rattle.frames.specs.Hex.{Bytes}
use Rattle.frames.specs.Layouts.{Lawful, begin_layout, define_layout, require_layout, run_layout, letter_layout}

-- the elements of a list from place i on, n of them
abbrev pub places : ℕ → ℕ → List ℕ → List ℕ
places zero i bs = []
places (suc n) i bs = slice_index bs i ∷ places n (suc i) bs

places-drop : (n i : ℕ) (bs : List ℕ) → length bs ≡ i + n → drop i bs ≡ places n i bs
places-drop zero i bs e = drop_all i bs (omega arith)
places-drop (suc n) i bs e =
    let h : i < length bs = omega arith in
    let s : i + 1 ≡ suc i = omega arith in
    drop_more bs i 0 h ∙ ap (λ k. slice_index bs i ∷ drop k bs) s ∙ ap (λ l. slice_index bs i ∷ l) (places-drop n (suc i) bs (omega arith))

-- a list of a known length, written out
pub listing : (n : ℕ) (bs : List ℕ) → length bs ≡ n → bs ≡ places n 0 bs
listing n bs e = places-drop n 0 bs (omega arith)

pub byte_at : (bs : List ℕ) (k : ℕ) → Bytes bs → slice_index bs k < 256
byte_at [] k h = lit< tt
byte_at (b ∷ bs) zero h = h.0
byte_at (b ∷ bs) (suc k) h = byte_at bs k h.1

-- the laws of each kind
pub begin_lawful : Lawful begin_layout
begin_lawful = record {
  least = lit≤ tt;
  most = lit≤ tt;
  code_fits = lit< tt;
  counts = λ x. refl;
  fits = λ x h. (h, tt);
  reads = λ x first check h. refl;
  writes = λ bs h e. listing 3 bs e;
}

pub define_lawful : Lawful define_layout
define_lawful = record {
  least = lit≤ tt;
  most = lit≤ tt;
  code_fits = lit< tt;
  counts = λ x. refl;
  fits = λ x h. (h.0, (h.1, (h.2, (h.3, tt))));
  reads = λ x first check h. refl;
  writes = λ bs h e. listing 6 bs e;
}

pub require_lawful : Lawful require_layout
require_lawful = record {
  least = lit≤ tt;
  most = lit≤ tt;
  code_fits = lit< tt;
  counts = λ x. refl;
  fits = λ x h. (h.0, (h.1, (h.2, tt)));
  reads = λ x first check h. refl;
  writes = λ bs h e. listing 5 bs e;
}

pub run_lawful : Lawful run_layout
run_lawful = record {
  least = lit≤ tt;
  most = lit≤ tt;
  code_fits = lit< tt;
  counts = λ x. refl;
  fits = λ x h. (h.0, (h.1, tt));
  reads = λ x first check h. refl;
  writes = λ bs h e. listing 4 bs e;
}

-- four bytes of a number
abbrev joined : ℕ → ℕ → ℕ → ℕ → ℕ
joined s3 s2 s1 s0 = s3 * 16777216 + s2 * 65536 + s1 * 256 + s0

joined_parts : (s : ℕ) → s < 2 ^ 32 → joined (s / 16777216 % 256) (s / 65536 % 256) (s / 256 % 256) (s % 256) ≡ s
joined_parts s h =
    let low : s ≡ 256 * (s / 256) + s % 256 = omega arith in
    let next : s / 256 ≡ 256 * (s / 65536) + s / 256 % 256 = omega arith in
    let high : s / 65536 ≡ 256 * (s / 16777216) + s / 65536 % 256 = omega arith in
    let top : s / 16777216 % 256 ≡ s / 16777216 = omega arith in
    omega arith

letter_writes : (bs : List ℕ) → Bytes bs → length bs ≡ 7 → bs ≡ slice_index bs 0 ∷ (letter_layout.laid (letter_layout.fields bs) ++ slice_index bs 6 ∷ [])
letter_writes bs h e =
    let b2 = byte_at bs 2 h in
    let b3 = byte_at bs 3 h in
    let b4 = byte_at bs 4 h in
    let b5 = byte_at bs 5 h in
    let s : ℕ = joined (slice_index bs 2) (slice_index bs 3) (slice_index bs 4) (slice_index bs 5) in
    let p2 : slice_index_or bs 2 0 ≡ s / 16777216 % 256 = omega arith in
    let p3 : slice_index_or bs 3 0 ≡ s / 65536 % 256 = omega arith in
    let p4 : slice_index_or bs 4 0 ≡ s / 256 % 256 = omega arith in
    let p5 : slice_index_or bs 5 0 ≡ s % 256 = omega arith in
    let l = listing 7 bs e in
    cc

pub letter_lawful : Lawful letter_layout
letter_lawful = record {
  least = lit≤ tt;
  most = lit≤ tt;
  code_fits = lit< tt;
  counts = λ x. refl;
  fits = λ x h. (h.0, (omega arith, (omega arith, (omega arith, (omega arith, tt)))));
  reads = λ x first check h. ap (λ n. record { instant = x.instant; signals = n }) (joined_parts x.signals h.1);
  writes = letter_writes;
}
