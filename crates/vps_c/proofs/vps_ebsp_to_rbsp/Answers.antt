-- `vps_ebsp_to_rbsp` meets its contract: the answer is told.
use Rattle.vps_c.specs.Calls.{tells_same}
use Rattle.vps_c.proofs.vps_ebsp_to_rbsp.Goals as goal

pub returns : goal.returns
returns c = record { tells = tells_same c.ebsp_to_rbsp.ensures.answered c.tell.ensures; output_after = c.ebsp_to_rbsp.ensures.left }
