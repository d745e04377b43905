-- Four numbers, and the schedules of both kinds.
use Rattle.std.proofs.Common.{arith}
use Rattle.vps_definition.specs.Views.{sublayer_length}
use Rattle.record_timing.specs.declared.schedule.Kind.TheVariants.{Nal, Vcl}
use Rattle.record_timing.specs.Few.{schedules_length_most}
use Rattle.record_timing.proofs.RecordTiming.sublayer_length.Goals as goal

pub overflow_add-result : goal.overflow_add-result
overflow_add-result c = record { fits = omega (arith, c.schedules_length.ensures, schedules_length_most _ c.args.self.now.formed c.args.self.now.timed Nal) }

pub overflow_add-result-2 : goal.overflow_add-result-2
overflow_add-result-2 c = record {
  fits = omega (arith, c.schedules_length.ensures, c.schedules_length-2.ensures, schedules_length_most _ c.args.self.now.formed c.args.self.now.timed Nal, schedules_length_most _ c.args.self.now.formed c.args.self.now.timed Vcl);
}

pub returns : goal.returns
unfolding sublayer_length
returns c = omega (arith, c.schedules_length.ensures, c.schedules_length-2.ensures)
