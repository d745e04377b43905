-- `put_count` meets its contract.
use Rattle.texts.specs.Adds.{adds_same, adds_then}
use Rattle.vps_show.proofs.shown.put_count.Goals as goal

pub returns : goal.returns
returns c = adds_then (adds_then (adds_same c.as_bytes.ensures.value c.put.ensures) c.put_number.ensures) c.put-2.ensures
