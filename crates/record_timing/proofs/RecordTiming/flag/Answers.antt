-- The flags stand where the view of a well-formed record's timing section has them.
use Rattle.std.proofs.Common.{sym, ap, ◌∙◌}
use Rattle.vps_definition.specs.Views.{hrd_of}
use Rattle.record_timing.specs.Timing.{flag_of}
use Rattle.record_timing.specs.Few.{viewed}
use Rattle.record_timing.proofs.RecordTiming.flag.Goals as goal

pub returns-in-Nal : goal.returns-in-Nal
returns-in-Nal c = c.number.ensures ∙ (viewed _ c.args.self.now.formed c.args.self.now.timed).hrd.nal ∙ ap (flag_of (hrd_of c.args.self.now.«record».now)) (sym c.in-Nal.is)

pub returns-in-Vcl : goal.returns-in-Vcl
returns-in-Vcl c = c.number-in-Vcl.ensures ∙ (viewed _ c.args.self.now.formed c.args.self.now.timed).hrd.vcl ∙ ap (flag_of (hrd_of c.args.self.now.«record».now)) (sym c.in-Vcl.is)
