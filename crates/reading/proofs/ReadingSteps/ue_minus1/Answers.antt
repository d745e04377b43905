-- The word is that of what is added to it.
use Rattle.vps_definition.specs.Words.{ue_minus1}
use Rattle.reading.proofs.ReadingSteps.ue_minus1.Goals as goal

pub returns : goal.returns
unfolding ue_minus1
returns c = c.code_number.ensures
