use Rattle.std.proofs.Common.{◌≡◌, ℕ, ◌+◌, ◌<◌, List, [], ◌∷◌, ◌++◌, map, length, get_or, take, ap, ◌∙◌, arith, take_all, length-take}
use Rattle.std.proofs.lemmas.List.{map_more, length-map}
use Rattle.cnf.specs.declared.clause.Literal.{Literal}
use Rattle.cnf.specs.Clauses.{opposite}
use Rattle.encode.proofs.emit.opposites.Goals as goal

pushed : (new old xs : List Literal) (y : Literal) (i : ℕ) (d : Literal) → i < length xs → new ≡ old ++ (y ∷ []) → y ≡ opposite (get_or xs i d) → old ≡ map opposite (take i xs) → new ≡ map opposite (take (i + 1) xs)
pushed new old xs y i d lt e f h = let more = map_more opposite xs i d lt in cc

pub push-requires : goal.push-requires
push-requires c = rw c.loop-literal.invariant (simp (length-map, length-take) (omega arith))

pub loop-literal-preserved : goal.loop-literal-preserved
loop-literal-preserved c =
    pushed _ _ c.args.literals.now _ c.loop-literal.literal-index _ c.loop-literal-test.true c.push.ensures c.opposite.ensures c.loop-literal.invariant

pub returns : goal.returns
returns c =
    c.loop-literal.invariant
    ∙ ap (map opposite) (take_all c.loop-literal.literal-index c.args.literals.now c.loop-literal-test.false)
