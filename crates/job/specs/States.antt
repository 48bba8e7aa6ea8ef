-- What the job's structs hold.
use Rattle.std.specs.Prelude.{◌≡◌, reverse, is_some, unwrap_or}
use Rattle.bounded.specs.Items.{items}
use Rattle.mtl.specs.declared.row.Row.{Row}
use Rattle.mtl.specs.Rows.{first, second}
use Rattle.mtl.specs.Layout.{rows_of}
use Rattle.mtl.specs.Lists.{top, start}
use Rattle.job.specs.declared.state.Setup.{Setup}
use Rattle.encode.specs.declared.place.Place.{Place}
use Rattle.job.specs.Calls.{State}

-- a job without a bound is not begun, and its bound counts as 0
abbrev pub state_of : Setup → State
state_of s = record { begun = is_some s.bound; bound = unwrap_or s.bound 0; rows = rows_of s.table; kept = items s.kept }

-- where a new row and its operands lie
pub record Placed (s : State) (r : Row) (p : Place) : Type 0 where
  pub k : p.k ≡ s.bound
  pub a : p.a ≡ start s.bound (reverse s.rows) (first r)
  pub b : p.b ≡ start s.bound (reverse s.rows) (second r)
  pub x : p.x ≡ top s.bound (reverse s.rows)
