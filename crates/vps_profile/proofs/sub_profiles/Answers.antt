-- The number and as many fields.
use Rattle.std.proofs.Common.{rules}
use Rattle.vps_definition.specs.ProfileTierLevel.{sub_profile, sub_profiles}
use Rattle.vps_profile.proofs.sub_profiles.Goals as goal

pub returns-in_err-count : goal.returns-in_err-count
unfolding sub_profiles
returns-in_err-count g c = let L = g.S.Steps.laws in search (rules, L.goes_then, L.goes_stop)

pub returns : goal.returns
unfolding sub_profiles sub_profile
returns g c = let L = g.S.Steps.laws in search (rules, L.goes_then, L.goes_stop)
