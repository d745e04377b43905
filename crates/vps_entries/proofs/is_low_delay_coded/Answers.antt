-- The first test that fails decides, or the last is left.
use borrow.Author.Tests.{eq-eqb, ne_eqb}
use Rattle.vps_entries.proofs.is_low_delay_coded.Goals as goal

pub returns-then-within-ne0 : goal.returns-then-within-ne0
returns-then-within-ne0 c = simp (ne_eqb _ _ c.if-within-ne0.true)

pub returns-then-present : goal.returns-then-present
returns-then-present c = simp (eq-eqb _ _ c.if-within-ne0.false, c.if-present.true)

pub returns-else-present : goal.returns-else-present
returns-else-present c = simp (eq-eqb _ _ c.if-within-ne0.false, c.if-present.false)
