-- The bytes that a Frame holds, and the characters that a Line holds.
use Rattle.std.specs.Prelude.{ℕ, List}
use Rattle.bounded.specs.Items.{items}
use Rattle.frames.specs.declared.buffer.Frame.{Frame}
use Rattle.frames.specs.declared.rows.Line.{Line}

abbrev pub held : Frame → List ℕ
held f = items f.bytes

abbrev pub shown : Line → List ℕ
shown l = items l.characters
