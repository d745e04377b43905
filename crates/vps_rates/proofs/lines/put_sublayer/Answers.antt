-- `put_sublayer` meets its contract: its columns, one behind the other.
use Rattle.std.proofs.Common.{ap}
use Rattle.texts.specs.Adds.{adds_then, adds_same}
use Rattle.texts.specs.Bytes.{bytes}
use Rattle.vps_rates.specs.Lines.{interval_column, sublayer_line}
use Rattle.vps_rates.proofs.lines.put_sublayer.Goals as goal

pub returns : goal.returns
unfolding sublayer_line bytes
returns c = adds_then (adds_then c.put_place.ensures (adds_same (ap interval_column c.interval_of.ensures) c.put_interval.ensures)) c.put.ensures
