-- The number is found where the table finds it.
use mathlib.Core.Path.{sym}
use Rattle.vps_definition.specs.Words.{general}
use Rattle.writing.proofs.WritingSteps.general.Goals as goal

pub returns-clause-goes : goal.returns-clause-goes
unfolding general
returns-clause-goes c = c.late.ensures.goes _ (sym c.number_at.ensures)
