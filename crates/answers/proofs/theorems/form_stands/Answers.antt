use Rattle.answers.proofs.Forms.{line_law}
use Rattle.answers.proofs.Writings.{literals_law}
use Rattle.answers.proofs.Saying.{says_law, told_law}
use Rattle.answers.proofs.Values.{sound_law, total_law, values_law}
use Rattle.answers.proofs.Meanings.{answer_law}
use Rattle.answers.proofs.theorems.form_stands.Goals as goal

pub returns : goal.returns
returns c = record { line = line_law; literals = literals_law; says = says_law; told = told_law; sound = sound_law; total = total_law; values = values_law; answer = answer_law }
