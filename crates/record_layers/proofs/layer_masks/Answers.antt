-- Behind turn i the layers below i have their closed masks, and the flags of the rest come next.
use Rattle.std.proofs.Common.{rules, arith}
use Rattle.record_layers.specs.Turns.{so_far_turn, so_far_all}
use Rattle.record_layers.proofs.layer_masks.Goals as goal

pub loop-i-preserved : goal.loop-i-preserved
loop-i-preserved c = (
  omega (arith, c.loop-i-test.true),
  search (rules, c.close, c.loop-i.invariant.1),
  so_far_turn _ _ _
      (omega (arith, c.loop-i-test.true, c.min-most.ensures))
      (omega (arith, c.loop-i-test.true, c.min-most.ensures, c.min.ensures))
      (omega (arith, c.loop-i-test.true, c.min-most.ensures, c.min.ensures, c.loop-i.invariant.1))
      c.loop-i.invariant.2 c.direct_mask.ensures c.close.ensures (search (rules, c.behind-numbers-in-loop-i.ensures, c.length.ensures)),
)

pub returns : goal.returns
returns c = so_far_all _ _ _ (omega (arith, c.loop-i.invariant.0, c.loop-i-test.false, c.min-most.ensures, c.min.ensures)) c.loop-i.invariant.2
