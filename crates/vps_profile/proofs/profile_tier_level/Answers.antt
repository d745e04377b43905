-- The head, the profile and the tier, and the rest.
use Rattle.std.proofs.Common.{rules}
use Rattle.vps_definition.specs.ProfileTierLevel.{profile_and_tier, profile_tier_level}
use Rattle.vps_profile.specs.Parts.{from_level, from_sublayers}
use Rattle.vps_profile.proofs.profile_tier_level.Goals as goal

pub returns-in_err-infer : goal.returns-in_err-infer
unfolding profile_tier_level
returns-in_err-infer g c = let L = g.S.Steps.laws in search (rules, L.goes_then, L.goes_stop)

pub returns-in_err-infer-2 : goal.returns-in_err-infer-2
unfolding profile_tier_level
returns-in_err-infer-2 g c = let L = g.S.Steps.laws in search (rules, L.goes_then, L.goes_stop)

pub returns-in_err-when : goal.returns-in_err-when
unfolding profile_tier_level
returns-in_err-when g c =
    let L = g.S.Steps.laws in
    let W = c.in_err-when.ensures profile_and_tier (λ x y r p. p) in
    search (rules, L.goes_then, L.goes_stop, W)

pub returns : goal.returns
unfolding profile_tier_level from_level from_sublayers
returns g c =
    let L = g.S.Steps.laws in
    let W = c.in_ok-when.ensures profile_and_tier (λ x y r p. p) in
    search (rules, L.goes_then, L.goes_stop, W)
