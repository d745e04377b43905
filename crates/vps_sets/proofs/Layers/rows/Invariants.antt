use Rattle.std.proofs.Common.{◌≤◌}
use Rattle.vps_sets.specs.Rows.{RowsSoFar}
use Rattle.vps_sets.proofs.Layers.rows.Given as goal

abbrev pub invariant-loop : goal.invariant-loop
invariant-loop g l = (l.counter ≤ l.count) × (l.multi ≤ l.counter) × RowsSoFar g.S.Steps.goes l.counter l.self.h.layers l.initial.steps l.self.closed.now l.multi l.steps
