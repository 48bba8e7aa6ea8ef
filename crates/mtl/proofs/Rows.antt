-- The codes of rows.
use Rattle.std.proofs.Common.{◌≤◌, arith}
use Rattle.mtl.specs.declared.row.Row.{Row}
use Rattle.mtl.specs.declared.row.Row.TheVariants.{Signal, Not, And, Or, Next, Until, Release, After, Within, Throughout, Previous, WeakPrevious, Since, Trigger, Ago, Lately, Steadily}
use Rattle.mtl.specs.Rows.{code}

pub code_range : (r : Row) → (1 ≤ code r) × (code r ≤ 17)
code_range (Signal a) = (omega arith, omega arith)
code_range (Not a) = (omega arith, omega arith)
code_range (And a b) = (omega arith, omega arith)
code_range (Or a b) = (omega arith, omega arith)
code_range (Next a) = (omega arith, omega arith)
code_range (Until a b) = (omega arith, omega arith)
code_range (Release a b) = (omega arith, omega arith)
code_range (After a t) = (omega arith, omega arith)
code_range (Within a t) = (omega arith, omega arith)
code_range (Throughout a t) = (omega arith, omega arith)
code_range (Previous a) = (omega arith, omega arith)
code_range (WeakPrevious a) = (omega arith, omega arith)
code_range (Since a b) = (omega arith, omega arith)
code_range (Trigger a b) = (omega arith, omega arith)
code_range (Ago a t) = (omega arith, omega arith)
code_range (Lately a t) = (omega arith, omega arith)
code_range (Steadily a t) = (omega arith, omega arith)
