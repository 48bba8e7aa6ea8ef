use Rattle.std.proofs.Common.{◌≡◌, ◌*◌, ◌≤◌, length, take}
use Rattle.bounded.specs.Items.{items}
use Rattle.frames.specs.Written.{spelled}
use Rattle.frames.proofs.encoding.encode.Given as goal

abbrev pub invariant-loop-b : goal.invariant-loop-b
invariant-loop-b l =
    record {
      few : length l.b-items ≤ 7;
      long : length (items l.characters) ≡ 2 * l.b-index;
      spelt : items l.characters ≡ spelled (take l.b-index l.b-items);
    }
