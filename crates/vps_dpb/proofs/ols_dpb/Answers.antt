-- Each word in the table's order.
use Rattle.std.proofs.Common.{rules}
use Rattle.vps_definition.specs.DpbParameters.{ols_dpb}
use Rattle.vps_dpb.proofs.ols_dpb.Goals as goal

pub returns-in_err-_width : goal.returns-in_err-_width
unfolding ols_dpb
returns-in_err-_width g c = let L = g.S.Steps.laws in search (rules, L.goes_then, L.goes_stop)

pub returns-in_err-_height : goal.returns-in_err-_height
unfolding ols_dpb
returns-in_err-_height g c = let L = g.S.Steps.laws in search (rules, L.goes_then, L.goes_stop)

pub returns-in_err-_chroma : goal.returns-in_err-_chroma
unfolding ols_dpb
returns-in_err-_chroma g c = let L = g.S.Steps.laws in search (rules, L.goes_then, L.goes_stop)

pub returns-in_err-depth : goal.returns-in_err-depth
unfolding ols_dpb
returns-in_err-depth g c = let L = g.S.Steps.laws in search (rules, L.goes_then, L.goes_stop)

pub returns-in_err-check : goal.returns-in_err-check
unfolding ols_dpb
returns-in_err-check g c = let L = g.S.Steps.laws in search (rules, L.goes_then, L.goes_stop)

pub returns : goal.returns
unfolding ols_dpb
returns g c = let L = g.S.Steps.laws in search (rules, L.goes_then, L.goes_stop, L.goes_done)
