-- `put_schedule` meets its contract: its columns, one behind the other.
use Rattle.texts.specs.Adds.{adds_then}
use Rattle.texts.specs.Bytes.{bytes}
use Rattle.vps_rates.specs.Lines.{schedule_line}
use Rattle.vps_rates.proofs.lines.put_schedule.Goals as goal

pub returns : goal.returns
unfolding schedule_line bytes
returns c = adds_then (adds_then (adds_then c.put_place.ensures c.put_kind.ensures) c.put_figures.ensures) c.put.ensures
