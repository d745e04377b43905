-- In each turn, the bytes stored with those of the bits left are all of them.
use Rattle.std.proofs.Common.{arith}
use Rattle.bit_sink.proofs.Steps.{storing_start, storing_step, storing_done}
use Rattle.bit_sink.proofs.Sink.store_bytes.Goals as goal

pub loop-i-init : goal.loop-i-init
loop-i-init c = storing_start _ _ _ (omega arith)

pub loop-i-preserved : goal.loop-i-preserved
loop-i-preserved c = storing_step c.loop-i.invariant (omega arith) c.store_byte.ensures

pub returns : goal.returns
returns c = storing_done c.loop-i.invariant (omega (arith, c.loop-i-test.false))
