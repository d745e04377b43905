-- `vps_write` meets its contract: the answer is told.
use Rattle.vps_c.specs.Calls.{tells_same}
use Rattle.vps_c.proofs.vps_write.Goals as goal

pub returns : goal.returns
returns c = record { tells = tells_same c.write_vps_nal.ensures.answered c.tell.ensures; output_after = c.write_vps_nal.ensures.left }
