-- The word is that of what is added to it.
use Rattle.vps_definition.specs.Words.{u_minus1}
use Rattle.reading.proofs.ReadingSteps.u_minus1.Goals as goal

pub returns-clause-goes : goal.returns-clause-goes
unfolding u_minus1
returns-clause-goes c = c.field.ensures.goes
