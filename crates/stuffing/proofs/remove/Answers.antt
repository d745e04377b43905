-- `remove` meets its contract: in each turn, what is stored with what removing leaves of the rest is the whole.
use Rattle.std.proofs.Common.{refl, sym, ◌∙◌}
use Rattle.stuffing.proofs.Steps.{removing_start, removing_drop, removing_keep, removing_room, removing_done}
use Rattle.stuffing.proofs.remove.Goals as goal

pub loop-b-init : goal.loop-b-init
loop-b-init c = removing_start _ _

pub loop-b-preserved-then-is_dropped : goal.loop-b-preserved-then-is_dropped
loop-b-preserved-then-is_dropped c = removing_drop c.loop-b.before c.loop-b.last c.loop-b.invariant c.loop-b-test.true (sym c.is_dropped.ensures ∙ c.if-is_dropped.true)

pub bounds-out-n : goal.bounds-out-n
bounds-out-n c = removing_room c.loop-b.before c.loop-b.last c.loop-b.invariant c.loop-b-test.true (sym c.is_dropped.ensures ∙ c.if-is_dropped.false) c.requires

pub loop-b-preserved : goal.loop-b-preserved
loop-b-preserved c = removing_keep c.loop-b.before c.loop-b.last c.loop-b.invariant c.loop-b-test.true (sym c.is_dropped.ensures ∙ c.if-is_dropped.false) refl

pub returns : goal.returns
returns c = removing_done c.loop-b.invariant c.loop-b-test.false
