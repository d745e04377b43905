-- Each word in the table's order.
use Rattle.std.proofs.Common.{rules}
use Rattle.vps_definition.specs.Words.{nothing}
use Rattle.vps_definition.specs.TimingHrd.{du_values, schedule}
use Rattle.vps_schedules.proofs.schedule.Goals as goal

pub returns-in_err-ue : goal.returns-in_err-ue
unfolding nothing schedule
returns-in_err-ue g c = let L = g.S.Steps.laws in search (rules, L.goes_then, L.goes_stop)

pub returns-in_err-ue-2 : goal.returns-in_err-ue-2
unfolding nothing schedule
returns-in_err-ue-2 g c = let L = g.S.Steps.laws in search (rules, L.goes_then, L.goes_stop)

pub returns-in_err-when : goal.returns-in_err-when
unfolding nothing schedule
returns-in_err-when g c =
    let L = g.S.Steps.laws in
    let W = c.in_err-when.ensures du_values (λ x y r p. p) in
    search (rules, L.goes_then, L.goes_stop, W)

pub returns-in_err-u : goal.returns-in_err-u
unfolding nothing schedule
returns-in_err-u g c =
    let L = g.S.Steps.laws in
    let W = c.in_ok-when.ensures du_values (λ x y r p. p) in
    search (rules, L.goes_then, L.goes_stop, W)

pub returns : goal.returns
unfolding nothing schedule
returns g c =
    let L = g.S.Steps.laws in
    let W = c.in_ok-when.ensures du_values (λ x y r p. p) in
    search (rules, L.goes_then, L.goes_stop, L.goes_done, W)
