use Rattle.stuffing.specs.Machine.{zeros_in}
use Rattle.stuffing.proofs.Steps.{Removing}
use Rattle.stuffing.proofs.remove.Given as goal

abbrev pub invariant-loop-b : goal.invariant-loop-b
invariant-loop-b l = Removing l.ebsp l.initial.out l.out l.b-index l.n (zeros_in l.before l.last)
