use Rattle.std.proofs.Common.{refl, arith}
use Rattle.sinks.proofs.Over.{numeral_area, numeral_end}
use Rattle.sinks.proofs.pen.Pen.number.Goals as goal

pub returns : goal.returns
returns c =
    let put = c.put_number-self.ensures in
    record { bytes = numeral_area (omega arith) put; end = numeral_end (omega arith) put; same_area = refl }
