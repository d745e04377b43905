-- The first lines are written, and the next schedule is left.
use Rattle.record_timing.specs.Timing.{schedule_count}
use Rattle.record_timing.specs.Items.{IsSchedule}
use Rattle.record_timing.specs.declared.schedule.Schedule.{Schedule}
use Rattle.vps_rates.specs.Printed.{schedule_text}
use Rattle.vps_rates.specs.Written.{Written, still}
use Rattle.vps_rates.proofs.table.write_schedules.Given as goal

abbrev pub invariant-loop-rest : goal.invariant-loop-rest
invariant-loop-rest g l = Written (IsSchedule l.sublayer.entry.timing.«record».now l.sublayer.entry.index l.sublayer.index l.fn.kind) (schedule_count l.sublayer.entry.timing.«record».now l.fn.kind) (schedule_text l.sublayer.entry.timing.«record».now l.sublayer.entry.index l.sublayer.index l.fn.kind) (g.W.Write.contents l.initial.out) (g.W.Write.contents l.out) l.rest

abbrev pub decreases-loop-rest : goal.decreases-loop-rest
decreases-loop-rest g l = still (λ (s : Schedule). s.index) (schedule_count l.sublayer.entry.timing.«record».now l.fn.kind) l.rest
