-- Behind turn i the bits before number i are read.
use Rattle.std.proofs.Common.{arith}
use Rattle.ptl_slots.specs.Slot.{bits_begin, bits_turn, bits_room}
use Rattle.ptl_slots.proofs.more_constraints.Goals as goal

pub loop-i-init : goal.loop-i-init
loop-i-init c = (omega arith, omega arith, bits_begin _, omega arith)

pub loop-i-preserved : goal.loop-i-preserved
loop-i-preserved c =
    let I = c.loop-i.invariant in (
      omega (arith, I.0),
      omega (arith, c.loop-i-test.true),
      bits_turn _ _ I.0 I.2 c.number_at.ensures,
      bits_room _ _ _ I.0 I.3 (omega (arith, c.number_at.type_inv)),
    )
