use Rattle.std.proofs.Common.{◌-◌, ◌*◌}
use Rattle.bit_sink.proofs.Steps.{Storing}
use Rattle.bit_sink.proofs.Sink.store_bytes.Given as goal

abbrev pub invariant-loop-i : goal.invariant-loop-i
invariant-loop-i l = Storing l.joined.value l.joined.count (l.joined.count - 8 * l.i) l.initial.self l.self
