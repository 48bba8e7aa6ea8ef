use Rattle.std.proofs.Common.{◌≡◌, ◌∷◌, sym, ap, ◌∙◌, rules}
use Rattle.text.specs.Split.{lines, kept}
use Rattle.text.specs.Left.{kept_left}
use Rattle.answers.specs.Reading.{join, each, numbers, close}
use Rattle.answers.proofs.Turns.{opened}
use Rattle.answers.proofs.literals.Literals.of.Goals as goal

pub returns : goal.returns
returns c =
    let all = kept (lines c.args.text.now) in
    let rest = kept_left c.next.new.self in
    let first : all ≡ c.in_ok-line.line.now ∷ rest = search rules in
    let v = c.in_ok-words.ensures in
    ap close (opened all rest c.in_ok-line.line.now v.0 first v.1 ∙ ap (λ ws. join (each ws) (numbers rest)) (sym v.2))
