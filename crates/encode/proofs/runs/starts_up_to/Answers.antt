use Rattle.std.proofs.Common.{rules, add-one}
use Rattle.mtl.specs.Lists.{starts}
use Rattle.encode.proofs.runs.starts_up_to.Goals as goal

pub returns : goal.returns
returns c = rw (add-one c.args.k) at (c.listed.ensures starts (λ j l lt e. search rules))
