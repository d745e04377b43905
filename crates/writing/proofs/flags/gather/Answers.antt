-- Each turn takes one flag more as the lowest bit.
use Rattle.std.proofs.Common.{rules}
use Rattle.writing.specs.Groups.{gathered_none, gathered_more}
use Rattle.writing.proofs.flags.gather.Goals as goal

pub loop-flag-init : goal.loop-flag-init
loop-flag-init c = gathered_none

pub loop-flag-preserved : goal.loop-flag-preserved
loop-flag-preserved c = gathered_more c.loop-flag.invariant c.loop-flag-test.true (search rules)
