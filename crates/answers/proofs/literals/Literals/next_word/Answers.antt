use Rattle.std.proofs.Common.{◌≡◌, [], ◌∷◌, rules}
use Rattle.text.specs.Left.{kept_left, words_left}
use Rattle.answers.proofs.Turns.{next_begun}
use Rattle.answers.proofs.literals.Literals.next_word.Goals as goal

pub returns : goal.returns
returns c =
    let before = c.args.self.now in
    let v = c.in_ok-self.ensures in
    let ended : words_left before.words ≡ [] = search rules in
    let first : kept_left before.lines ≡ c.in-Some-next.line.now ∷ kept_left c.next-2.new.self = search rules in
    next_begun before (record { lines = c.next-2.new.self; words = c.next-3.new.self }) c.in-Some-next.line.now v.0 c.in_ok-self.field-0 c.next-3.result ended first v.1 v.2 c.next-3.ensures.steps
