-- `put_byte` meets its contract, with room for a byte and without.
use Rattle.std.proofs.Common.{refl, arith}
use Rattle.texts.specs.Text.{puts_byte, puts_past}
use Rattle.texts.proofs.Text.put_byte.Goals as goal

pub returns-then-room-gt0 : goal.returns-then-room-gt0
returns-then-room-gt0 c = record { same_reference = refl; puts = puts_byte _ _ _ (omega (arith, c.saturating_sub-room.ensures, c.if-room-gt0.true)) }

pub returns-else-room-gt0 : goal.returns-else-room-gt0
returns-else-room-gt0 c = record { same_reference = refl; puts = puts_past _ _ _ (omega (arith, c.saturating_sub-room.ensures, c.if-room-gt0.false)) }
