-- What the writer and the judge mean.
use Rattle.std.specs.Prelude.{◌≡◌, ℕ, ◌+◌, ◌-◌, ◌≤◌, min, Bool, true, cond, Some, None, Option, List, length, take, ◌==◌, slice_index}
use Rattle.std.specs.Option.{is_none, option_or}
use Rattle.std.proofs.Common.{lit≤}
use Rattle.cnf.specs.Clauses.{Assignment, Clause, sat, in_range}
use Rattle.cnf.specs.Sinks.{Model}
use Rattle.sinks.specs.declared.judge.Judge.{Judge}
use Rattle.sinks.specs.declared.writer.Writer.{Writer}
use Rattle.sinks.specs.Lines.{line, over, read, all_true, writer_cells}

-- the line of c stands behind the lines of w, every other byte is as it was, and the area is the one that was lent
pub record LineFollows (c : Clause) (w v : Writer) : Type 0 where
  pub bytes : v.area.now ≡ over w.area.now w.used (line c)
  pub used : v.used ≡ w.used + length (line c)
  pub fits : w.used + length (line c) ≤ length w.area.now
  pub ranged : in_range 9999 c ≡ true
  pub same_area : v.area.ghost_name ≡ w.area.ghost_name

-- A writer watches every assignment; in are those that satisfy all lines of its area.
abbrev pub writer_model : Model Writer
writer_model = record {
  longest = λ w. 40;
  highest = λ w. 9999;
  cells = λ w. writer_cells (length w.area.now) w.used;
  count = λ w. w.taken;
  watched = λ w α. Unit {0};
  gives = λ w α. α;
  inside = λ w α. all_true α (read (take w.used w.area.now));
  takes = λ w c v. LineFollows c w v;
  short = λ w. lit≤ tt;
}

-- a writer at its making
pub record NewWriter (area : List ℕ) (w : Writer) : Type 0 where
  pub bytes : w.area.now ≡ area
  pub unused : w.used ≡ 0
  pub no_clause : w.taken ≡ 0
  pub all_in : (α : Assignment) → writer_model.inside w α ≡ true

-- the assignment of an area of bytes
abbrev pub assigned : List ℕ → Assignment
assigned area v = slice_index area (v - 1) == 1

-- the assignment gives the variables 1 to the highest what the area gives them
abbrev pub Agrees : List ℕ → ℕ → Assignment → Type 0
Agrees area highest α = (v : ℕ) → 1 ≤ v → v ≤ highest → α v ≡ assigned area v

-- the number of the first false clause, after one more clause
abbrev pub first_fault : Option ℕ → ℕ → Bool → Option ℕ
first_fault fault number satisfied = option_or fault (cond satisfied None (Some number))

-- A judge watches the assignment of its area, which is in while no clause was false.
abbrev pub judge_highest : Judge → ℕ
judge_highest j = min (length j.area.now) 9999

-- what a clause does to a judge
pub record Judged (c : Clause) (j k : Judge) : Type 0 where
  pub same_area : k.area.now ≡ j.area.now
  pub taken : k.taken ≡ j.taken + 1
  pub cells : k.cells + (length c + 1) ≡ j.cells
  pub fault : k.fault ≡ first_fault j.fault k.taken (sat (assigned j.area.now) c)

abbrev pub judge_model : Model Judge
judge_model = record {
  longest = λ j. 40;
  highest = judge_highest;
  cells = λ j. j.cells;
  count = λ j. j.taken;
  watched = λ j α. Agrees j.area.now (judge_highest j) α;
  gives = λ j α. α;
  inside = λ j α. is_none j.fault;
  takes = λ j c k. Judged c j k;
  short = λ j. lit≤ tt;
}

-- a judge at its making
pub record NewJudge (area : List ℕ) (j : Judge) : Type 0 where
  pub bytes : j.area.now ≡ area
  pub cells : j.cells ≡ 16777216
  pub no_clause : j.taken ≡ 0
  pub no_fault : j.fault ≡ None
