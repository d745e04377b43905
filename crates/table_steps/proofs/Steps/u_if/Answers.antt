-- The table's two branches are the code's.
use Rattle.vps_definition.specs.Words.{u_if}
use Rattle.table_steps.specs.Laws.{goes_yes, goes_no}
use Rattle.table_steps.proofs.Steps.u_if.Goals as goal

pub returns-then-coded : goal.returns-then-coded
unfolding u_if
returns-then-coded g c = goes_yes g.Self.Steps.laws c.if-coded.true c.u.ensures.goes

pub returns-else-coded : goal.returns-else-coded
unfolding u_if
returns-else-coded g c = goes_no g.Self.Steps.laws c.if-coded.false c.infer.ensures.goes
