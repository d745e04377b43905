-- The table's two words, in its order.
use Rattle.std.proofs.Common.{rules}
use Rattle.vps_definition.specs.DpbParameters.{index}
use Rattle.vps_entries.proofs.Indices.one.Goals as goal

pub returns-in_err-v : goal.returns-in_err-v
unfolding index
returns-in_err-v g c = let L = g.S.Steps.laws in search (rules, L.goes_then, L.goes_stop)

pub returns : goal.returns
unfolding index
returns g c = let L = g.S.Steps.laws in search (rules, L.goes_then, L.goes_stop)
