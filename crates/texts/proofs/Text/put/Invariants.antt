use Rattle.std.proofs.Common.{take}
use Rattle.texts.specs.Adds.{Adds}
use Rattle.texts.proofs.Text.put.Given as goal

abbrev pub invariant-loop-byte : goal.invariant-loop-byte
invariant-loop-byte l = Adds (take l.byte-index l.bytes) l.initial.self l.self
