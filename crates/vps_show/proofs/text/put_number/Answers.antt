-- `put_number` meets its contract.
use Rattle.texts.specs.Adds.{adds_then}
use Rattle.vps_show.proofs.text.put_number.Goals as goal

pub returns : goal.returns
returns c = adds_then c.put.ensures c.put_decimal.ensures
