use Rattle.std.proofs.Common.{◌≡◌, ◌≤◌, ◌+◌, ◌-◌, ◌^◌}
use Rattle.vps_definition.specs.ProfileTierLevel.{number_of}
use Rattle.ptl_slots.specs.Standing.{standing}
use Rattle.ptl_slots.proofs.more_constraints.Given as goal

abbrev pub invariant-loop-i : goal.invariant-loop-i
invariant-loop-i l = (70 ≤ l.i) × (l.i ≤ 78) × (l.more ≡ number_of 0 (standing (l.i - 70) 70 l.length)) × (l.more + 2 ^ 32 ≤ 2 ^ (l.i - 38))
