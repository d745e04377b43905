-- The first test decides, or the second is left.
use borrow.Author.Tests.{lt-ltb, le-ltb}
use Rattle.vps_entries.proofs.are_units_set.Goals as goal

pub returns-then-units-gt0 : goal.returns-then-units-gt0
returns-then-units-gt0 c = simp (lt-ltb _ _ c.if-units-gt0.true)

pub returns-else-units-gt0 : goal.returns-else-units-gt0
returns-else-units-gt0 c = simp (le-ltb _ _ c.if-units-gt0.false)
