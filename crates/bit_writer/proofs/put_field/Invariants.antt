use Rattle.std.proofs.Common.{◌≡◌}
use Rattle.bit_writer.proofs.Steps.{Halfway}
use Rattle.bit_writer.proofs.put_field.Given as goal

abbrev pub invariant-loop-i : goal.invariant-loop-i
invariant-loop-i l = (l.i-iterator.a.iter.start ≡ 0) × Halfway l.initial.out l.at l.value l.width l.out l.i-iterator.a.iter.end l.i-iterator.b.start
