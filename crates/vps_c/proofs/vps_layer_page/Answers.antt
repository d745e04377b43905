-- `vps_layer_page` meets its contract: the answer is told.
use Rattle.vps_c.specs.Calls.{tells_same}
use Rattle.vps_c.proofs.vps_layer_page.Goals as goal

pub returns : goal.returns
returns c = record { tells = tells_same c.layer_page.ensures.result_value c.tell.ensures; output_after = c.layer_page.ensures.output_after }
