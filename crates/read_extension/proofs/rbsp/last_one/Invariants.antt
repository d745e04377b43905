use Rattle.std.specs.Prelude.{length}
use Rattle.read_extension.proofs.Last.{Sought}
use Rattle.read_extension.proofs.rbsp.last_one.Given as goal

abbrev pub invariant-loop-last : goal.invariant-loop-last
invariant-loop-last l = Sought l.bytes l.rest

abbrev pub decreases-loop-last : goal.decreases-loop-last
decreases-loop-last l = length l.rest
