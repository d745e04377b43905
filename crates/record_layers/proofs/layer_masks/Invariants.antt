use Rattle.std.proofs.Common.{◌≤◌, ◌≡◌, length}
use Rattle.record_layers.specs.Turns.{SoFar}
use Rattle.record_layers.proofs.layer_masks.Given as goal

abbrev pub invariant-loop-i : goal.invariant-loop-i
invariant-loop-i l = (l.i ≤ l.most) × (length l.closed ≡ length l.initial.closed) × SoFar l.rec l.n l.i l.numbers l.initial.closed l.closed
