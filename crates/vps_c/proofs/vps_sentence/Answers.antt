-- `vps_sentence` meets its contract: the answer is told.
use Rattle.vps_c.specs.Calls.{tells_same}
use Rattle.vps_c.proofs.vps_sentence.Goals as goal

pub returns : goal.returns
returns c = record { tells = tells_same c.sentence.ensures.result_value c.tell.ensures; output_after = c.sentence.ensures.output_after }
