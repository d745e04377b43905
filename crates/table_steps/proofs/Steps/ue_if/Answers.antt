-- The table's two branches are the code's.
use Rattle.vps_definition.specs.Words.{ue_if}
use Rattle.table_steps.specs.Laws.{goes_yes, goes_no}
use Rattle.table_steps.proofs.Steps.ue_if.Goals as goal

pub returns-then-coded : goal.returns-then-coded
unfolding ue_if
returns-then-coded g c = goes_yes g.Self.Steps.laws c.if-coded.true c.ue.ensures

pub returns-else-coded : goal.returns-else-coded
unfolding ue_if
returns-else-coded g c = goes_no g.Self.Steps.laws c.if-coded.false c.infer.ensures.goes
