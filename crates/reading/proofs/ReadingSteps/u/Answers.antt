-- The word is that of what is added to it.
use Rattle.vps_definition.specs.Words.{u}
use Rattle.reading.proofs.ReadingSteps.u.Goals as goal

pub returns-clause-goes : goal.returns-clause-goes
unfolding u
returns-clause-goes c = c.field.ensures.goes
