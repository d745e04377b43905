use Rattle.std.specs.Prelude.{length}
use Rattle.stuffing.proofs.Steps.{Measured}
use Rattle.stuffing.proofs.rbsp_length.Given as goal

abbrev pub invariant-loop-three : goal.invariant-loop-three
invariant-loop-three l = Measured l.ebsp l.rest l.n

abbrev pub decreases-loop-three : goal.decreases-loop-three
decreases-loop-three l = length l.rest
