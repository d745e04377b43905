-- Those of VCL stand behind those of NAL.
use Rattle.std.proofs.Common.{◌+◌, sym, ap, ◌∙◌, arith}
use Rattle.vps_definition.specs.Views.{hrd_of}
use Rattle.record_timing.specs.declared.schedule.Kind.TheVariants.{Nal}
use Rattle.record_timing.specs.Timing.{schedules_start}
use Rattle.record_timing.specs.Few.{schedules_length_most}
use Rattle.record_timing.proofs.RecordTiming.schedules_start.Goals as goal

pub returns-in-Nal : goal.returns-in-Nal
returns-in-Nal c = ap (schedules_start (hrd_of c.args.self.now.«record».now)) (sym c.in-Nal.is)

pub overflow_add-result : goal.overflow_add-result
overflow_add-result c = record { fits = omega (arith, c.schedules_length.ensures, schedules_length_most _ c.args.self.now.formed c.args.self.now.timed Nal) }

pub returns-in-Vcl : goal.returns-in-Vcl
returns-in-Vcl c = ap (λ n. 4 + n) c.schedules_length.ensures ∙ ap (schedules_start (hrd_of c.args.self.now.«record».now)) (sym c.in-Vcl.is)
