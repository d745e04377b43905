use Rattle.std.proofs.Common.{◌≡◌}
use Rattle.vps_definition.specs.OutputLayerSets.{flagged, mask_of}
use Rattle.vps_definition.specs.Layout.{firsts}
use Rattle.record_layers.proofs.Entry.flags_mask.Given as goal

abbrev pub invariant-loop-j : goal.invariant-loop-j
invariant-loop-j l = l.mask ≡ mask_of 64 (flagged (firsts l.j l.pairs))
