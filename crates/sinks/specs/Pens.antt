-- What a pen writes.
use Rattle.std.specs.Prelude.{◌≡◌, ℕ, ◌+◌, ◌≤◌, List, length}
use Rattle.sinks.specs.declared.pen.Pen.{Pen}
use Rattle.sinks.specs.Lines.{over}

-- from the place of the pen on, the area has room for xs
abbrev pub Room : List ℕ → Pen → Type 0
Room xs p = p.at + length xs ≤ length p.area.now

-- p wrote xs and became q, which stands behind them in the same area
pub record Wrote (xs : List ℕ) (p q : Pen) : Type 0 where
  pub bytes : q.area.now ≡ over p.area.now p.at xs
  pub end : q.at ≡ p.at + length xs
  pub same_area : q.area.ghost_name ≡ p.area.ghost_name
