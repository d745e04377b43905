-- The word is that of what is added to it.
use Rattle.vps_definition.specs.Words.{ue_minus1}
use Rattle.writing.proofs.WritingSteps.ue_minus1.Goals as goal

pub returns : goal.returns
unfolding ue_minus1
returns c = c.code.ensures
