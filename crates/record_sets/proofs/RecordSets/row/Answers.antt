-- The rows stand one behind the other, behind their count.
use Rattle.record_sets.specs.Rows.{row_found}
use Rattle.record_sets.proofs.RecordSets.row.Goals as goal

pub returns : goal.returns
returns c = rw (c.front.ensures, c.behind-2.ensures, c.front-rows.ensures, c.behind.ensures)
    (row_found _ _ c.layers-n.ensures c.start_of.ensures c.behind-section.ensures c.number_at-count.ensures)
