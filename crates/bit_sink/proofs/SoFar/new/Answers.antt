-- No bits: nothing is counted, pending or stored.
use mathlib.Core.Path.{refl}
use lib.Dec.{lit<}
use Rattle.bits.specs.Bits.{bits_of, pack}
use Rattle.bit_sink.specs.SoFar.{stuffed_none}
use Rattle.bit_sink.proofs.SoFar.new.Goals as goal

pub returns-clause-holds : goal.returns-clause-holds
unfolding bits_of pack
returns-clause-holds c l lent = record { inside = l; binary = tt; counted = refl; few = lit< tt; behind = refl; stuffed = stuffed_none 0 _ lent }
