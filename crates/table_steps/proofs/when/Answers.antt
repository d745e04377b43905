-- Nothing where the flag is 0, else the call.
use borrow.Author.Tests.{eq-eqb, ne_eqb}
use Rattle.vps_definition.specs.Words.{when, nothing}
use Rattle.table_steps.specs.Laws.{goes_yes, goes_no}
use Rattle.table_steps.proofs.when.Goals as goal

pub returns-then-flag-eq0 : goal.returns-then-flag-eq0
unfolding when nothing
returns-then-flag-eq0 g c m h = let L = g.S.Steps.laws in goes_yes L (eq-eqb _ _ c.if-flag-eq0.true) L.goes_done

pub returns : goal.returns
unfolding when
returns g c m h = goes_no g.S.Steps.laws (ne_eqb _ _ c.if-flag-eq0.false) (h _ _ _ c.go.ensures)
