-- The parts in the table's order.
use Rattle.std.proofs.Common.{rules}
use Rattle.vps_definition.specs.ProfileTierLevel.{general_constraints_info}
use Rattle.vps_profile.proofs.general_constraints_info.Goals as goal

pub returns-in_err-flag : goal.returns-in_err-flag
unfolding general_constraints_info
returns-in_err-flag g c = let L = g.S.Steps.laws in search (rules, L.goes_then, L.goes_stop)

pub returns-in_err-constraints_if : goal.returns-in_err-constraints_if
unfolding general_constraints_info
returns-in_err-constraints_if g c = let L = g.S.Steps.laws in search (rules, L.goes_then, L.goes_stop)

pub returns : goal.returns
unfolding general_constraints_info
returns g c = let L = g.S.Steps.laws in search (rules, L.goes_then, L.goes_stop)
