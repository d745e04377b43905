-- `write_sublayer` meets its contract: its line and its schedules, one behind the other.
use Rattle.vps_rates.specs.Printed.{sublayer_text}
use Rattle.vps_rates.specs.Written.{on_ok, appends_then}
use Rattle.vps_rates.proofs.table.write_sublayer.Goals as goal

pub returns : goal.returns
unfolding sublayer_text
returns g c = on_ok c.write_schedules-2.result (appends_then _ _ _ _ _ (appends_then _ _ _ _ _ c.in_ok-write_sublayer_line.ensures c.in_ok-write_schedules.ensures)) c.write_schedules-2.ensures
