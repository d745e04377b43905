-- Each word in the table's order.
use Rattle.std.proofs.Common.{rules}
use Rattle.vps_definition.specs.Words.{nothing}
use Rattle.vps_definition.specs.DpbParameters.{dpb_sublayer}
use Rattle.vps_dpb.proofs.dpb_sublayer.Goals as goal

pub returns-in_err-buffering : goal.returns-in_err-buffering
unfolding nothing dpb_sublayer
returns-in_err-buffering g c = let L = g.S.Steps.laws in search (rules, L.goes_then, L.goes_stop)

pub returns-in_err-check : goal.returns-in_err-check
unfolding nothing dpb_sublayer
returns-in_err-check g c = let L = g.S.Steps.laws in search (rules, L.goes_then, L.goes_stop)

pub returns-in_err-reorder : goal.returns-in_err-reorder
unfolding nothing dpb_sublayer
returns-in_err-reorder g c = let L = g.S.Steps.laws in search (rules, L.goes_then, L.goes_stop)

pub returns-in_err-check-2 : goal.returns-in_err-check-2
unfolding nothing dpb_sublayer
returns-in_err-check-2 g c = let L = g.S.Steps.laws in search (rules, L.goes_then, L.goes_stop)

pub returns-in_err-_latency : goal.returns-in_err-_latency
unfolding nothing dpb_sublayer
returns-in_err-_latency g c = let L = g.S.Steps.laws in search (rules, L.goes_then, L.goes_stop)

pub returns : goal.returns
unfolding nothing dpb_sublayer
returns g c = let L = g.S.Steps.laws in search (rules, L.goes_then, L.goes_stop, L.goes_done)
