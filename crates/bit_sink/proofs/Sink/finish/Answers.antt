-- The stop bit and the zeros behind it are the trailing bits; the end of stuffing makes the whole.
use Rattle.bit_sink.proofs.Steps.{finished}
use Rattle.bit_sink.proofs.Sink.finish.Goals as goal

pub returns-clause-finishes : goal.returns-clause-finishes
returns-clause-finishes c = finished c.put.ensures.puts c.put_zeros_to_boundary.ensures.puts c.store_end.ensures
