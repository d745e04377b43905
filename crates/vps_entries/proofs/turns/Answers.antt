-- The flag decides between one and the max tid's.
use borrow.Author.Tests.{eq-eqb, ne_eqb}
use Rattle.vps_entries.proofs.turns.Goals as goal

pub returns-then-flag-eq0 : goal.returns-then-flag-eq0
returns-then-flag-eq0 c = simp (eq-eqb _ _ c.if-flag-eq0.true)

pub returns : goal.returns
returns c = simp (ne_eqb _ _ c.if-flag-eq0.false)
