use Rattle.std.proofs.Common.{[], ◌∷◌, map, subst, arith, take_all}
use Rattle.encode.specs.Parts.{behind}
use Rattle.encode.proofs.Receive.{item_fits, item_took}
use Rattle.encode.proofs.emit.put_pairs.Goals as goal

pub put_clause-requires : goal.put_clause-requires
put_clause-requires g c =
    record {
      room = item_fits g.R.Receiver.reception (λ y. behind c.args.guard (c.args.first ∷ y ∷ [])) c.args.others.now c.loop-other.other-index _ c.requires c.loop-other-test.true c.loop-other.invariant;
      small = omega arith;
    }

pub loop-other-preserved : goal.loop-other-preserved
loop-other-preserved g c =
    item_took g.R.Receiver.reception (λ y. behind c.args.guard (c.args.first ∷ y ∷ [])) c.args.others.now c.loop-other.other-index _ c.loop-other-test.true c.loop-other.invariant c.put_clause.ensures

pub returns : goal.returns
returns g c =
    let whole = take_all c.loop-other.other-index c.args.others.now c.loop-other-test.false in
    subst (λ l. g.R.Receiver.reception.took c.args.out.now (map (λ y. behind c.args.guard (c.args.first ∷ y ∷ [])) l) c.loop-other.out) whole c.loop-other.invariant
