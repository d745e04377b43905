-- Each word in the table's order.
use Rattle.std.proofs.Common.{rules}
use Rattle.vps_definition.specs.Vps.{header_under}
use Rattle.table_steps.specs.Laws.{goes_ruled, stops_ruled}
use Rattle.vps_fields.proofs.Header.of.Goals as goal

pub returns-in_err-id : goal.returns-in_err-id
unfolding header_under
returns-in_err-id g c = let L = g.S.Steps.laws in search (rules, goes_ruled L, stops_ruled L, L.goes_then, L.goes_stop)

pub returns-in_err-layers_minus1 : goal.returns-in_err-layers_minus1
unfolding header_under
returns-in_err-layers_minus1 g c = let L = g.S.Steps.laws in search (rules, goes_ruled L, stops_ruled L, L.goes_then, L.goes_stop)

pub returns-in_err-max_sublayers_minus1 : goal.returns-in_err-max_sublayers_minus1
unfolding header_under
returns-in_err-max_sublayers_minus1 g c = let L = g.S.Steps.laws in search (rules, goes_ruled L, stops_ruled L, L.goes_then, L.goes_stop)

pub returns-in_err-check : goal.returns-in_err-check
unfolding header_under
returns-in_err-check g c = let L = g.S.Steps.laws in search (rules, goes_ruled L, stops_ruled L, L.goes_then, L.goes_stop)

pub returns-in_err-check-2 : goal.returns-in_err-check-2
unfolding header_under
returns-in_err-check-2 g c = let L = g.S.Steps.laws in search (rules, goes_ruled L, stops_ruled L, L.goes_then, L.goes_stop)

pub returns-in_err-default_max_tid_flag : goal.returns-in_err-default_max_tid_flag
unfolding header_under
returns-in_err-default_max_tid_flag g c = let L = g.S.Steps.laws in search (rules, goes_ruled L, stops_ruled L, L.goes_then, L.goes_stop)

pub returns-in_err-all_independent_flag : goal.returns-in_err-all_independent_flag
unfolding header_under
returns-in_err-all_independent_flag g c = let L = g.S.Steps.laws in search (rules, goes_ruled L, stops_ruled L, L.goes_then, L.goes_stop)

pub returns : goal.returns
unfolding header_under
returns g c = let L = g.S.Steps.laws in search (rules, goes_ruled L, stops_ruled L, L.goes_then, L.goes_stop, L.goes_done)
