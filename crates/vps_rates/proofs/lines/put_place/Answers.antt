-- `put_place` meets its contract: its columns, one behind the other.
use Rattle.texts.specs.Adds.{adds_then}
use Rattle.vps_rates.specs.Lines.{place_columns}
use Rattle.vps_rates.proofs.lines.put_place.Goals as goal

pub returns : goal.returns
unfolding place_columns
returns c = adds_then c.put_right_aligned.ensures c.put_right_aligned-2.ensures
