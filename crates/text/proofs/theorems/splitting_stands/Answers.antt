use Rattle.text.proofs.Pieces.{lines_law, words_law}
use Rattle.text.proofs.theorems.splitting_stands.Goals as goal

pub returns : goal.returns
returns c = record { lines = lines_law; words = words_law }
