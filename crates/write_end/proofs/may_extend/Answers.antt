-- The first test decides, or the second is left.
use borrow.Author.Tests.{eq-eqb, ne_eqb}
use Rattle.write_end.proofs.may_extend.Goals as goal

pub returns-then-flag-eq1 : goal.returns-then-flag-eq1
returns-then-flag-eq1 c = simp (eq-eqb _ _ c.if-flag-eq1.true)

pub returns-else-flag-eq1 : goal.returns-else-flag-eq1
returns-else-flag-eq1 c = simp (ne_eqb _ _ c.if-flag-eq1.false)
