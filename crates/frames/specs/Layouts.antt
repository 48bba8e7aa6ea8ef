-- The kinds of frames: where each record lies in the bytes.
use Rattle.std.specs.Prelude.{◌≡◌, ℕ, ◌+◌, ◌-◌, ◌*◌, ◌/◌, ◌%◌, ◌^◌, ◌<◌, ◌≤◌, cond, List, [], ◌∷◌, ◌++◌, length, Some, None, Option, ◌==◌, slice_index}
use Rattle.calls.specs.declared.records.Begin.{Begin}
use Rattle.calls.specs.declared.records.Define.{Define}
use Rattle.calls.specs.declared.records.Require.{Require}
use Rattle.frames.specs.declared.records.Run.{Run}
use Rattle.frames.specs.declared.records.Letter.{Letter}
use Rattle.frames.specs.Hex.{Bytes}

pub record Layout (R : Type 0) : Type 1 where
  -- the first byte, and the number of bytes with it and the check byte
  pub code : ℕ
  pub size : ℕ
  -- the record in the bytes of a frame, and the bytes between the first and the check byte
  pub fields : List ℕ → R
  pub laid : R → List ℕ
  -- each field fits its type
  pub small : R → Type 0

-- the record and its bytes give each other
pub record Lawful {R : Type 0} (k : Layout R) : Type 0 where
  pub least : 3 ≤ k.size
  pub most : k.size ≤ 7
  pub code_fits : k.code < 256
  pub counts : (x : R) → length (k.laid x) + 2 ≡ k.size
  pub fits : (x : R) → k.small x → Bytes (k.laid x)
  pub reads : (x : R) (first check : ℕ) → k.small x → k.fields (first ∷ (k.laid x ++ check ∷ [])) ≡ x
  pub writes : (bs : List ℕ) → Bytes bs → length bs ≡ k.size → bs ≡ slice_index bs 0 ∷ (k.laid (k.fields bs) ++ slice_index bs (k.size - 1) ∷ [])

-- the record in bytes of the right number
abbrev pub apart : {R : Type 0} → Layout R → List ℕ → Option R
apart k bs = cond (length bs == k.size) (Some (k.fields bs)) None

abbrev pub begin_layout : Layout Begin
begin_layout = record {
  code = 0xB0;
  size = 3;
  fields = λ bs. record { bound = slice_index bs 1 };
  laid = λ x. x.bound ∷ [];
  small = λ x. x.bound < 256;
}

abbrev pub define_layout : Layout Define
define_layout = record {
  code = 0xD0;
  size = 6;
  fields = λ bs. record { code = slice_index bs 1; a = slice_index bs 2; b = slice_index bs 3; t = slice_index bs 4 };
  laid = λ x. x.code ∷ x.a ∷ x.b ∷ x.t ∷ [];
  small = λ x. (x.code < 256) × (x.a < 256) × (x.b < 256) × (x.t < 256);
}

abbrev pub require_layout : Layout Require
require_layout = record {
  code = 0xE0;
  size = 5;
  fields = λ bs. record { row = slice_index bs 1; instant = slice_index bs 2; value = slice_index bs 3 };
  laid = λ x. x.row ∷ x.instant ∷ x.value ∷ [];
  small = λ x. (x.row < 256) × (x.instant < 256) × (x.value < 256);
}

abbrev pub run_layout : Layout Run
run_layout = record {
  code = 0xA0;
  size = 4;
  fields = λ bs. record { bound = slice_index bs 1; start = slice_index bs 2 };
  laid = λ x. x.bound ∷ x.start ∷ [];
  small = λ x. (x.bound < 256) × (x.start < 256);
}

-- the signals, highest byte first
abbrev pub letter_layout : Layout Letter
letter_layout = record {
  code = 0xC0;
  size = 7;
  fields = λ bs. record { instant = slice_index bs 1; signals = slice_index bs 2 * 16777216 + slice_index bs 3 * 65536 + slice_index bs 4 * 256 + slice_index bs 5 };
  laid = λ x. x.instant ∷ (x.signals / 16777216 % 256) ∷ (x.signals / 65536 % 256) ∷ (x.signals / 256 % 256) ∷ (x.signals % 256) ∷ [];
  small = λ x. (x.instant < 256) × (x.signals < 2 ^ 32);
}
