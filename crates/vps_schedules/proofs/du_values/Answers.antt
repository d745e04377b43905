-- Both words in the table's order.
use Rattle.std.proofs.Common.{rules}
use Rattle.vps_definition.specs.Words.{nothing}
use Rattle.vps_definition.specs.TimingHrd.{du_values}
use Rattle.vps_schedules.proofs.du_values.Goals as goal

pub returns-in_err-ue : goal.returns-in_err-ue
unfolding nothing du_values
returns-in_err-ue g c = let L = g.S.Steps.laws in search (rules, L.goes_then, L.goes_stop)

pub returns-in_err-ue-2 : goal.returns-in_err-ue-2
unfolding nothing du_values
returns-in_err-ue-2 g c = let L = g.S.Steps.laws in search (rules, L.goes_then, L.goes_stop)

pub returns : goal.returns
unfolding nothing du_values
returns g c = let L = g.S.Steps.laws in search (rules, L.goes_then, L.goes_done)
