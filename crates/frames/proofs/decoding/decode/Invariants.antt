use Rattle.std.proofs.Common.{◌≡◌, ◌+◌, ◌*◌, length}
use Rattle.std.specs.Slice.Iter.{chunks_exact_rest, chunks_exact_size}
use Rattle.bounded.specs.Items.{items}
use Rattle.frames.specs.Hex.{bytes}
use Rattle.frames.proofs.Framing.{prepend}
use Rattle.frames.proofs.decoding.decode.Given as goal

abbrev pub invariant-loop-pair : goal.invariant-loop-pair
invariant-loop-pair l =
    record {
      can : goal.iterator-loop-pair.can_next l.pair-iterator;
      ends : goal.iterator-loop-pair.is_finite l.pair-iterator;
      two : chunks_exact_size l.pair-iterator ≡ 2;
      half : 2 * length (items l.bytes) + length (chunks_exact_rest l.pair-iterator) ≡ length l.line;
      read : bytes l.line ≡ prepend (items l.bytes) (bytes (chunks_exact_rest l.pair-iterator));
    }
