-- The word is that of what is added to it.
use Rattle.vps_definition.specs.Words.{ue}
use Rattle.reading.proofs.ReadingSteps.ue.Goals as goal

pub returns : goal.returns
unfolding ue
returns c = c.code_number.ensures
