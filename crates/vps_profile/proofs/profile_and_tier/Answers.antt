-- The two fields in the table's order.
use Rattle.std.proofs.Common.{rules}
use Rattle.vps_definition.specs.Words.{nothing}
use Rattle.vps_definition.specs.ProfileTierLevel.{profile_and_tier}
use Rattle.vps_profile.proofs.profile_and_tier.Goals as goal

pub returns-in_err-u : goal.returns-in_err-u
unfolding profile_and_tier
returns-in_err-u g c = let L = g.S.Steps.laws in search (rules, L.goes_then, L.goes_stop)

pub returns-in_err-u-2 : goal.returns-in_err-u-2
unfolding profile_and_tier
returns-in_err-u-2 g c = let L = g.S.Steps.laws in search (rules, L.goes_then, L.goes_stop)

pub returns : goal.returns
unfolding profile_and_tier nothing
returns g c = let L = g.S.Steps.laws in search (rules, L.goes_then, L.goes_stop, L.goes_done)
