-- What an iterator over lines or words has left to give.
use Rattle.std.specs.Prelude.{ℕ, List}
use Rattle.text.specs.declared.lines.Lines.{Lines}
use Rattle.text.specs.declared.lines.KeptLines.{KeptLines}
use Rattle.text.specs.declared.words.Words.{Words}
use Rattle.text.specs.Split.{lines, kept, words_of}

abbrev pub lines_left : Lines → List (List ℕ)
lines_left it = lines it.left.now

abbrev pub kept_left : KeptLines → List (List ℕ)
kept_left it = kept (lines it.left.now)

abbrev pub words_left : Words → List (List ℕ)
words_left it = words_of it.left
