-- Each number is one more of those that are put, and what is left stands behind it.
use Rattle.std.proofs.Common.{rules}
use Rattle.replay_numbers.specs.Numbers.{behind_none, behind_more}
use Rattle.replay_numbers.proofs.Content.put_numbers.Goals as goal

pub loop-number-init : goal.loop-number-init
loop-number-init c = search (rules, behind_none)

pub loop-number-preserved : goal.loop-number-preserved
loop-number-preserved c = search (rules, behind_more)
