-- A code is one field where it has at most 32 bits, and two fields in any case.
use Rattle.bit_sink.proofs.Steps.{puts_as, code_field, code_puts}
use Rattle.bit_sink.proofs.Sink.put_code.Goals as goal

pub returns-then-code-lt16-clause-puts : goal.returns-then-code-lt16-clause-puts
returns-then-code-lt16-clause-puts c small = puts_as (code_field _ _ _ c.in-Some.ensures.code c.if-code-lt16.true c.bits.ensures) c.put.ensures.puts

pub returns-clause-puts : goal.returns-clause-puts
returns-clause-puts c small = code_puts small c.in-Some.ensures.number c.in-Some.ensures.zeros c.put-2.ensures.puts c.put-3.ensures.puts
