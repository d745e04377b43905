-- `put_line` meets its contract.
use Rattle.texts.specs.Adds.{adds_same, adds_then}
use Rattle.vps_show.proofs.shown.put_line.Goals as goal

pub returns : goal.returns
returns c = adds_then (adds_then (adds_same c.as_bytes.ensures.value c.put.ensures) c.put_numbers.ensures) c.put-2.ensures
