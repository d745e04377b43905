-- As many zeros as the definition has.
use Rattle.bit_sink.proofs.Steps.{puts_as, boundary_field}
use Rattle.bit_sink.proofs.Sink.put_zeros_to_boundary.Goals as goal

pub returns-clause-puts : goal.returns-clause-puts
returns-clause-puts c = puts_as (boundary_field _ _ c.to_boundary.ensures.0) c.put.ensures.puts
