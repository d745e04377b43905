-- `put` meets its contract, by cases: no bits, less room, and room for all of them.
use Rattle.std.proofs.Common.{arith, refl}
use Rattle.bit_writer.proofs.Steps.{no_bits, with_room, without_room}
use Rattle.bit_writer.proofs.BitWriter.put.Goals as goal

pub returns-then-width-eq0 : goal.returns-then-width-eq0
returns-then-width-eq0 c = no_bits _ _ _ c.if-width-eq0.true

pub returns-then-next-self : goal.returns-then-next-self
returns-then-next-self c = without_room _ _ _ (omega arith) (omega arith)

pub returns : goal.returns
returns c = with_room _ _ _ (omega arith) (omega arith) c.put_field.ensures refl refl
