-- Its test of the size decides the definition's, and its second is the same.
use borrow.Author.Tests.{lt-ltb, le-ltb}
use Rattle.vps_entries.proofs.Indices.are_coded.Goals as goal

pub returns-then-self-gt1 : goal.returns-then-self-gt1
returns-then-self-gt1 c = simp (lt-ltb _ _ c.if-self-gt1.true)

pub returns-else-self-gt1 : goal.returns-else-self-gt1
returns-else-self-gt1 c = simp (le-ltb _ _ c.if-self-gt1.false)
