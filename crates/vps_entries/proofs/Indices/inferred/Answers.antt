-- Its test of the size decides the definition's.
use borrow.Author.Tests.{eq-eqb, ne_eqb}
use Rattle.vps_entries.proofs.Indices.inferred.Goals as goal

pub returns-then-self-eq1 : goal.returns-then-self-eq1
returns-then-self-eq1 c = simp (eq-eqb _ _ c.if-self-eq1.true)

pub returns : goal.returns
returns c = simp (ne_eqb _ _ c.if-self-eq1.false)
