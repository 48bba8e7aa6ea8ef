use Rattle.std.proofs.Common.{sym, subst}
use Rattle.encode.proofs.Claims.{any_held, all_held}
use Rattle.encode.proofs.emit.write_claim.Goals as goal

pub write_any-requires-in-Any-clause-room : goal.write_any-requires-in-Any-clause-room
write_any-requires-in-Any-clause-room g c =
    subst (g.R.Receiver.reception.fits c.args.out.now) (any_held _ c.in-Any.gs c.as_slice.ensures.value c.args.guard c.args.claim c.in-Any.x c.in-Any.is) c.requires

pub write_all-requires-in-All-clause-room : goal.write_all-requires-in-All-clause-room
write_all-requires-in-All-clause-room g c =
    subst (g.R.Receiver.reception.fits c.args.out.now) (all_held _ c.in-All.gs c.as_slice-in-All.ensures.value c.args.guard c.args.claim c.in-All.x c.in-All.is) c.requires

pub returns-in-Any : goal.returns-in-Any
returns-in-Any g c =
    subst (λ cs. g.R.Receiver.reception.took c.args.out.now cs c.write_any-in-Any.new.out) (sym (any_held _ c.in-Any.gs c.as_slice.ensures.value c.args.guard c.args.claim c.in-Any.x c.in-Any.is)) c.write_any-in-Any.ensures

pub returns-in-All : goal.returns-in-All
returns-in-All g c =
    subst (λ cs. g.R.Receiver.reception.took c.args.out.now cs c.write_all-in-All.new.out) (sym (all_held _ c.in-All.gs c.as_slice-in-All.ensures.value c.args.guard c.args.claim c.in-All.x c.in-All.is)) c.write_all-in-All.ensures
