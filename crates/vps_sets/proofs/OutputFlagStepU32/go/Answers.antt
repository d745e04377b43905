-- The flag is one bit, as the table's.
use Rattle.vps_sets.specs.Rows.{output_flag_met}
use Rattle.vps_sets.proofs.OutputFlagStepU32.go.Goals as goal

pub returns : goal.returns
returns g c = record { gives = output_flag_met g.S.Steps.laws _ c.u.ensures.goes; within = c.u.ensures.within }
