-- The parts in the table's order.
use Rattle.std.proofs.Common.{rules}
use Rattle.vps_definition.specs.ProfileTierLevel.{general_constraints_info}
use Rattle.vps_profile.specs.Parts.{from_level}
use Rattle.vps_profile.proofs.from_level.Goals as goal

pub returns-in_err-u : goal.returns-in_err-u
unfolding from_level
returns-in_err-u g c = let L = g.S.Steps.laws in search (rules, L.goes_then, L.goes_stop)

pub returns-in_err-u-2 : goal.returns-in_err-u-2
unfolding from_level
returns-in_err-u-2 g c = let L = g.S.Steps.laws in search (rules, L.goes_then, L.goes_stop)

pub returns-in_err-u-3 : goal.returns-in_err-u-3
unfolding from_level
returns-in_err-u-3 g c = let L = g.S.Steps.laws in search (rules, L.goes_then, L.goes_stop)

pub returns-in_err-when : goal.returns-in_err-when
unfolding from_level
returns-in_err-when g c =
    let L = g.S.Steps.laws in
    let W = c.in_err-when.ensures general_constraints_info (λ x y r p. p) in
    search (rules, L.goes_then, L.goes_stop, W)

pub returns : goal.returns
unfolding from_level
returns g c =
    let L = g.S.Steps.laws in
    let W = c.in_ok-when.ensures general_constraints_info (λ x y r p. p) in
    search (rules, L.goes_then, L.goes_stop, W)
