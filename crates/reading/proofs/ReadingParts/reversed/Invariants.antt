use Rattle.bits.specs.Bits.{field_width}
use Rattle.reading.specs.Reversed.{Stored}
use Rattle.reading.proofs.ReadingParts.reversed.Given as goal

abbrev pub invariant-loop-i : goal.invariant-loop-i
invariant-loop-i l = Stored l.count (field_width l.width) l.initial.self l.i l.self l.sum
