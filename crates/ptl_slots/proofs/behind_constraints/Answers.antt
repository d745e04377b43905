-- `behind_constraints` meets its contract: none where the profile is absent, a length 0 where the flag is, else all bits.
use Rattle.ptl_slots.specs.Slot.{constraints_absent, constraints_none, constraints_some}
use Rattle.ptl_slots.proofs.behind_constraints.Goals as goal

pub returns-then-present-eq0 : goal.returns-then-present-eq0
returns-then-present-eq0 c rec = constraints_absent _ c.if-present-eq0.true

pub returns-then-number_at-eq0 : goal.returns-then-number_at-eq0
returns-then-number_at-eq0 c rec = constraints_none c.args.present c.args.flag.now c.if-present-eq0.false c.number_at.ensures c.behind-length.ensures c.if-number_at-eq0.true c.behind.ensures

pub returns : goal.returns
returns c rec = constraints_some c.args.present c.args.flag.now c.if-present-eq0.false c.number_at.ensures c.behind-length.ensures c.if-number_at-eq0.false c.more_constraints.ensures.0 c.behind-2.ensures
