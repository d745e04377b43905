-- Where the condition holds nothing changes.
use Rattle.vps_definition.specs.Words.{check}
use Rattle.table_steps.specs.Laws.{goes_yes}
use Rattle.writing.specs.Laws.{emits_done}
use Rattle.writing.specs.Marked.{laws}
use Rattle.writing.specs.Steps.{check_fails}
use Rattle.writing.proofs.WritingSteps.check.Goals as goal

pub returns-then-holds-clause-goes : goal.returns-then-holds-clause-goes
unfolding check
returns-then-holds-clause-goes c = goes_yes laws c.if-holds.true emits_done

pub returns-else-holds-clause-goes : goal.returns-else-holds-clause-goes
returns-else-holds-clause-goes c = rw c.if-holds.false (check_fails _)
