-- No count exceeds the records read.
use Rattle.std.proofs.Common.{◌≤◌}
use Rattle.replay_list.proofs.replay.Given as goal

abbrev pub invariant-loop : goal.invariant-loop
invariant-loop g l = (l.counts.cases ≤ l.counter) × (l.counts.different ≤ l.counter)
