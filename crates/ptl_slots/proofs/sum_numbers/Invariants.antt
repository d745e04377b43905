use Rattle.std.proofs.Common.{◌≡◌, take}
use Rattle.vps_definition.specs.Words.{sum}
use Rattle.ptl_slots.proofs.sum_numbers.Given as goal

abbrev pub invariant-loop-v : goal.invariant-loop-v
invariant-loop-v l = l.sum ≡ sum (take l.v-index l.v-items)
