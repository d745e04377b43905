-- `put_bit` meets its contract: it stores the byte with the other bit, which is what `set_bit` does.
use Rattle.bits.specs.Bits.{set_bit}
use Rattle.bit_writer.proofs.put_bit.Goals as goal

pub returns : goal.returns
unfolding set_bit
returns c = rw c.with_bit.ensures
