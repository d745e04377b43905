-- `write_schedules` meets its contract: behind each turn one text more is written, and the next schedule is left.
use Rattle.std.proofs.Common.{rules}
use Rattle.vps_rates.specs.Printed.{schedules_text}
use Rattle.vps_rates.specs.Written.{written_begin, written_end}
use Rattle.vps_rates.specs.Turns.{schedule_turn}
use Rattle.vps_rates.proofs.table.write_schedules.Goals as goal

pub loop-rest-init : goal.loop-rest-init
loop-rest-init g c = written_begin _ _ _ _ c.schedule-rest.result c.schedule-rest.ensures.there c.schedule-rest.ensures.is

pub loop-rest-preserved : goal.loop-rest-preserved
loop-rest-preserved g c = schedule_turn _ _ _ _ _ _ _ _ c.next-rest.result c.in-Some.schedule c.in-Some.is c.loop-rest.invariant c.in_ok-write_schedule.ensures c.next-rest.ensures.there c.next-rest.ensures.is

pub returns : goal.returns
unfolding schedules_text
returns g c = written_end _ _ _ _ _ c.loop-rest.rest (search rules) c.loop-rest.invariant
