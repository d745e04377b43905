-- Each turn goes one entry on.
use Rattle.std.proofs.Common.{◌∙◌, rules, arith}
use Rattle.vps_definition.specs.Views.{again, timing_entry}
use Rattle.record_timing.specs.Few.{entry_next}
use Rattle.record_timing.proofs.RecordTiming.entry_numbers.Goals as goal

pub loop-init : goal.loop-init
unfolding timing_entry again
loop-init c = (omega arith, search rules)

pub loop-preserved : goal.loop-preserved
loop-preserved c = (
  omega (arith, c.loop-test.true),
  c.behind_entry-numbers.ensures ∙ entry_next _ _ c.loop.invariant.1,
)
