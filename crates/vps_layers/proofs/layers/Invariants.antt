use Rattle.std.proofs.Common.{◌≤◌, ◌≡◌, length}
use Rattle.vps_fields.specs.Header.{header_of}
use Rattle.vps_layers.specs.Layers.{LayersSoFar}
use Rattle.vps_layers.proofs.layers.Given as goal

abbrev pub invariant-loop-i : goal.invariant-loop-i
invariant-loop-i g l = (l.i ≤ l.h.layers) × (length l.closed ≡ 64) × LayersSoFar g.S.Steps.goes (header_of l.h) l.i l.initial.steps l.least l.closed l.steps
