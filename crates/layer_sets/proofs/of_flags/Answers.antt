-- `layer_sets::of_flags` meets its contract: behind turn j the mask has the first j flags.
use Rattle.std.proofs.Common.{arith, refl}
use Rattle.layer_sets.specs.Flags.{held_none, flags_turn}
use Rattle.layer_sets.proofs.of_flags.Goals as goal

pub loop-j-init : goal.loop-j-init
loop-j-init c = held_none.bits

pub loop-j-preserved : goal.loop-j-preserved
loop-j-preserved c = flags_turn _ _ _ (omega (arith, c.loop-j-test.true)) c.loop-j.invariant refl c.with_flag-mask.ensures
