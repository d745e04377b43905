use Rattle.std.proofs.Common.{◌≡◌}
use Rattle.vps_definition.specs.OutputLayerSets.{with_reached, mask_of}
use Rattle.layer_sets.specs.Masks.{bit_of, bit_at}
use Rattle.layer_sets.proofs.cover.Given as goal

abbrev pub invariant-loop-k : goal.invariant-loop-k
invariant-loop-k l = l.all ≡ mask_of 64 (with_reached l.k (bit_at l.closed) (bit_of l.mask))
