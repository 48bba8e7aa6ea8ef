use Rattle.std.proofs.Common.{◌∙◌}
use Rattle.encode.proofs.Claims.{all_cut}
use Rattle.encode.proofs.Receive.{first_fits, next_fits, both_took}
use Rattle.encode.proofs.emit.write_all.Goals as goal

pub put_pairs-requires : goal.put_pairs-requires
put_pairs-requires g c =
    first_fits g.R.Receiver.reception _ _ (all_cut c.args.guard c.args.x c.opposite.result c.args.gs.now _ c.opposite.ensures c.opposites-flipped.ensures) c.requires.room

pub put_clause-requires-clause-room : goal.put_clause-requires-clause-room
put_clause-requires-clause-room g c =
    next_fits g.R.Receiver.reception _ _ (all_cut c.args.guard c.args.x c.opposite.result c.args.gs.now _ c.opposite.ensures (c.as_slice.ensures.value ∙ c.opposites-flipped.ensures)) c.requires.room c.put_pairs.ensures

pub returns : goal.returns
returns g c =
    both_took g.R.Receiver.reception _ _ (all_cut c.args.guard c.args.x c.opposite.result c.args.gs.now _ c.opposite.ensures (c.as_slice.ensures.value ∙ c.opposites-flipped.ensures)) c.put_pairs.ensures c.put_clause.ensures
