-- The flags, the boundary, as many levels as flags are 1, and the sub-profiles.
use Rattle.std.specs.Prelude.{ℕ}
use Rattle.std.proofs.Common.{rules, ap}
use Rattle.vps_definition.specs.ProfileTierLevel.{reversed, sub_profiles}
use Rattle.table_steps.specs.Laws.{goes_as}
use Rattle.vps_profile.specs.Parts.{from_sublayers}
use Rattle.vps_profile.proofs.from_sublayers.Goals as goal

pub returns-in_err-levels : goal.returns-in_err-levels
unfolding from_sublayers
returns-in_err-levels g c = let L = g.S.Steps.laws in search (rules, L.goes_then, L.goes_stop)

pub returns-in_err-align : goal.returns-in_err-align
unfolding from_sublayers
returns-in_err-align g c =
    let L = g.S.Steps.laws in
    let F = c.in_ok-levels.ensures.goes in
    search (rules, L.goes_then, L.goes_stop, F.2)

pub returns-in_err-reversed : goal.returns-in_err-reversed
unfolding from_sublayers
returns-in_err-reversed g c =
    let L = g.S.Steps.laws in
    let F = c.in_ok-levels.ensures.goes in
    let V = goes_as L (ap (λ (k : ℕ). reversed k 8) F.1) c.in_err-reversed.ensures.goes in
    search (rules, L.goes_then, L.goes_stop, F.2, V)

pub returns : goal.returns
unfolding from_sublayers
returns g c =
    let L = g.S.Steps.laws in
    let F = c.in_ok-levels.ensures.goes in
    let V = goes_as L (ap (λ (k : ℕ). reversed k 8) F.1) c.in_ok-reversed.ensures.goes.2 in
    let W = c.when.ensures sub_profiles (λ x y r p. p) in
    search (rules, L.goes_then, F.2, V, W)
