-- The count and then the rows.
use Rattle.std.proofs.Common.{rules}
use Rattle.vps_definition.specs.Vps.{rows_section}
use Rattle.vps_sets.specs.Sets.{goes_chosen}
use Rattle.vps_sets.proofs.Layers.chosen.Goals as goal

pub returns-in_err-count : goal.returns-in_err-count
unfolding rows_section
returns-in_err-count g c = let L = g.S.Steps.laws in search (rules, L.goes_stop)

pub returns : goal.returns
returns g c = goes_chosen g.S.Steps.laws _ _ _ _ c.in_ok-count.ensures.goes c.rows.ensures
