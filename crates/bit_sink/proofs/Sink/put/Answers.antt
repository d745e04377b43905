-- The pending bits and the field are one number; its whole bytes are stored and the rest is pending.
use Rattle.bits.specs.Bits.{field_width}
use Rattle.bit_sink.proofs.Steps.{pushed}
use Rattle.bit_sink.proofs.Sink.put.Goals as goal

pub returns-clause-puts : goal.returns-clause-puts
returns-clause-puts c =
    pushed (field_width c.args.width) c.args.value _ _ c.of-joined.ensures.value c.of-joined.ensures.count c.store_bytes.ensures c.rest-self.ensures c.field_width.ensures.0
