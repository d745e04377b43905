-- Behind turn j the mask has the first of j pairs.
use Rattle.record_layers.specs.Turns.{flags_begin, flags_turn}
use Rattle.record_layers.proofs.Entry.flags_mask.Goals as goal

pub loop-j-init : goal.loop-j-init
loop-j-init c = flags_begin _

pub loop-j-preserved : goal.loop-j-preserved
loop-j-preserved c = flags_turn _ _ _ c.loop-j.invariant c.number_at-v.ensures c.with_flag-mask.ensures
