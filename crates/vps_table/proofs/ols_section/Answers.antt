-- The count, and then the indices.
use Rattle.std.proofs.Common.{rules}
use Rattle.vps_definition.specs.Vps.{ols_section}
use Rattle.vps_table.proofs.ols_section.Goals as goal

pub returns-in_err-infer : goal.returns-in_err-infer
unfolding ols_section
returns-in_err-infer g c = let L = g.S.Steps.laws in search (rules, L.goes_then, L.goes_stop)

pub returns : goal.returns
unfolding ols_section
returns g c = let L = g.S.Steps.laws in search (rules, L.goes_then, L.goes_stop)
