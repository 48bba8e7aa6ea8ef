use Rattle.std.proofs.Common.{rules}
use Rattle.frames.specs.Layouts.{begin_layout, define_layout, require_layout}
use Rattle.calls.specs.declared.Call.TheVariants.{Begin, Define, Require}
use Rattle.frames.proofs.Calling.{back, begin_scripted, define_scripted, require_scripted}
use Rattle.frames.proofs.scripts.write_call.Goals as goal

pub returns-in-Begin-clause-back : goal.returns-in-Begin-clause-back
returns-in-Begin-clause-back c = search (rules, back begin_layout Begin begin_scripted)

pub returns-in-Define-clause-back : goal.returns-in-Define-clause-back
returns-in-Define-clause-back c = search (rules, back define_layout Define define_scripted)

pub returns-in-Require-clause-back : goal.returns-in-Require-clause-back
returns-in-Require-clause-back c = search (rules, back require_layout Require require_scripted)
