-- The first test decides, or the second is left.
use borrow.Author.Tests.{eq-eqb, ne_eqb}
use Rattle.vps_entries.proofs.is_hrd_present.Goals as goal

pub returns-then-nal-eq1 : goal.returns-then-nal-eq1
returns-then-nal-eq1 c = simp (eq-eqb _ _ c.if-nal-eq1.true)

pub returns-else-nal-eq1 : goal.returns-else-nal-eq1
returns-else-nal-eq1 c = simp (ne_eqb _ _ c.if-nal-eq1.false)
