-- The table's two branches are the code's.
use Rattle.vps_definition.specs.Words.{check}
use Rattle.table_steps.specs.Laws.{goes_yes, goes_no}
use Rattle.reading.specs.Laws.{laws}
use Rattle.reading.specs.Steps.{meets_refuse}
use Rattle.reading.proofs.ReadingSteps.check.Goals as goal

pub returns-then-holds-clause-goes : goal.returns-then-holds-clause-goes
unfolding check
returns-then-holds-clause-goes c = goes_yes laws c.if-holds.true laws.goes_done

pub returns-else-holds-clause-goes : goal.returns-else-holds-clause-goes
unfolding check
returns-else-holds-clause-goes c = goes_no laws c.if-holds.false meets_refuse
