use Rattle.std.proofs.Common.{◌≡◌, ◌*◌}
use Rattle.bits.specs.Bits.{field_at}
use Rattle.bit_fields.proofs.first_bytes.Given as goal

abbrev pub invariant-loop-i : goal.invariant-loop-i
invariant-loop-i l = l.number ≡ field_at l.bytes 0 (8 * l.i)
