-- The table's two branches are the code's.
use Rattle.vps_definition.specs.Words.{general_if}
use Rattle.table_steps.specs.Laws.{goes_yes, goes_no}
use Rattle.table_steps.proofs.Steps.general_if.Goals as goal

pub returns-then-coded : goal.returns-then-coded
unfolding general_if
returns-then-coded g c = goes_yes g.Self.Steps.laws c.if-coded.true c.general.ensures.goes

pub returns-else-coded : goal.returns-else-coded
unfolding general_if
returns-else-coded g c = goes_no g.Self.Steps.laws c.if-coded.false g.Self.Steps.laws.goes_done
