-- `put_interval` meets its contract, case by case.
use Rattle.std.proofs.Common.{sym, ap}
use Rattle.texts.specs.Adds.{adds_same}
use Rattle.texts.specs.Bytes.{bytes}
use Rattle.vps_rates.specs.Lines.{interval_column}
use Rattle.vps_rates.proofs.lines.put_interval.Goals as goal

pub returns-in-None : goal.returns-in-None
unfolding bytes
returns-in-None c = adds_same (sym (ap interval_column c.in-None.is)) c.put.ensures
