-- There are at most 32 schedules of a kind.
use Rattle.std.proofs.Common.{arith}
use Rattle.record_timing.specs.Few.{schedules_most}
use Rattle.record_timing.proofs.schedule.Schedule.next.Goals as goal

pub overflow_add-self : goal.overflow_add-self
overflow_add-self c = record { fits = omega (arith, c.args.self.there, schedules_most _ c.args.self.sublayer.entry.timing.formed c.args.self.sublayer.entry.timing.timed c.args.self.kind) }
