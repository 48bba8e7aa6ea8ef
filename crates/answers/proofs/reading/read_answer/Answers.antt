use Rattle.std.proofs.Common.{◌≡◌, length, sym, rules}
use Rattle.answers.specs.Variables.{variables}
use Rattle.answers.specs.Answer.{answer, area_after, model_of}
use Rattle.answers.proofs.Meanings.{answer_law, satisfied}
use Rattle.answers.proofs.reading.read_answer.Goals as goal

pub returns : goal.returns
returns c =
    let v = variables c.args.setup.now in
    let t = c.args.text.now in
    let before = c.args.area.now in
    let told : c.read_for.result ≡ answer v t (length before) = search rules in
    let filled : c.read_for.new.area ≡ area_after v c.read_for.result (model_of t) before = search rules in
    let means = (answer_law v t (length before) c.read_for.result).0 (sym told) in
    record { said = told; written = filled; meaning = means; satisfied = satisfied v t (length before) c.read_for.result before c.read_for.new.area means filled }
