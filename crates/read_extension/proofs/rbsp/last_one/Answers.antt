-- From the end on each byte that is 0 is passed; the last one-bit is the lowest of the first that isn't.
use Rattle.read_extension.proofs.Last.{sought_all, sought_none, sought_zero, sought_one}
use Rattle.read_extension.proofs.rbsp.last_one.Goals as goal

pub loop-last-init : goal.loop-last-init
loop-last-init c = sought_all _

pub returns-then-last-ne0 : goal.returns-then-last-ne0
returns-then-last-ne0 c = sought_one c.in-Some.front.now c.in-Some.last.now c.loop-last.invariant c.in-Some.ensures.cases c.if-last-ne0.true (λ i. (c.type_inv.bytes i).fits)

pub loop-last-preserved : goal.loop-last-preserved
loop-last-preserved c = sought_zero c.in-Some.front.now c.in-Some.last.now c.loop-last.invariant c.in-Some.ensures.cases c.if-last-ne0.false

pub returns : goal.returns
returns c = sought_none c.loop-last.invariant c.in_default.ensures.cases
