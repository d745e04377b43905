-- The table's two branches are the code's.
use Rattle.vps_definition.specs.Vps.{slot_number_if}
use Rattle.table_steps.specs.Laws.{goes_yes, goes_no}
use Rattle.vps_ptl.proofs.slot_number_if.Goals as goal

pub returns-then-coded-clause-goes : goal.returns-then-coded-clause-goes
unfolding slot_number_if
returns-then-coded-clause-goes g c i at = goes_yes g.S.Steps.laws c.if-coded.true (c.slot_number.ensures.goes i at)

pub returns-else-coded-clause-goes : goal.returns-else-coded-clause-goes
unfolding slot_number_if
returns-else-coded-clause-goes g c i at = goes_no g.S.Steps.laws c.if-coded.false g.S.Steps.laws.goes_done
