-- `vps_rbsp_to_ebsp` meets its contract: the answer is told.
use Rattle.vps_c.specs.Calls.{tells_same}
use Rattle.vps_c.proofs.vps_rbsp_to_ebsp.Goals as goal

pub returns : goal.returns
returns c = record { tells = tells_same c.rbsp_to_ebsp.ensures.answered c.tell.ensures; output_after = c.rbsp_to_ebsp.ensures.left }
