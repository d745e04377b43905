-- The first pass finds it.
use Rattle.std.proofs.Common.{◌∙◌}
use Rattle.vps_writer.specs.Write.{measured_well_formed}
use Rattle.vps_writer.proofs.is_well_formed.Goals as goal

pub returns : goal.returns
returns c = c.is_ok.ensures.value ∙ measured_well_formed _ _ c.measure.ensures
