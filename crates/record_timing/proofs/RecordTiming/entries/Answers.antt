-- The count is the thirteenth number behind the flag.
use Rattle.std.proofs.Common.{◌∙◌}
use Rattle.record_timing.specs.Few.{count_read}
use Rattle.record_timing.proofs.RecordTiming.entries.Goals as goal

pub returns : goal.returns
returns c = c.number.ensures ∙ count_read _
