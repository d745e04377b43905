-- What stands behind the flag.
use Rattle.std.proofs.Common.{rules}
use Rattle.vps_definition.specs.Layout.{from_section}
use Rattle.vps_definition.specs.Views.{timing_numbers}
use Rattle.record_timing.proofs.RecordTiming.numbers.Goals as goal

pub returns : goal.returns
unfolding timing_numbers from_section
returns c = search rules
