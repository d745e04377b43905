use Rattle.std.proofs.Common.{◌≡◌, take}
use Rattle.vps_definition.specs.OutputLayerSets.{flagged, mask_of}
use Rattle.layer_sets.proofs.of_flags.Given as goal

abbrev pub invariant-loop-j : goal.invariant-loop-j
invariant-loop-j l = l.mask ≡ mask_of 64 (flagged (take l.j l.flags))
