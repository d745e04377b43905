-- `weight_at` meets its contract: a one shifted by at most seven is a power of two that the type holds.
use Rattle.bit_writer.proofs.Steps.{one_shifted}
use Rattle.bit_writer.proofs.weight_at.Goals as goal

pub returns : goal.returns
returns c = one_shifted c.args.at
