-- Bit by bit.
use Rattle.read_extension.proofs.Stored.{bits_of_byte}
use Rattle.read_extension.proofs.bits_of.Goals as goal

pub returns : goal.returns
returns c = bits_of_byte c.args.byte
