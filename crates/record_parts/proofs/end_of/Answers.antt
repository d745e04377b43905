-- `end_of` meets its contract.
use Rattle.record_parts.specs.Starts.{end_at_next, end_of_all}
use Rattle.record_parts.proofs.end_of.Goals as goal

pub returns-then-k-lt-LAST_SECTION : goal.returns-then-k-lt-LAST_SECTION
returns-then-k-lt-LAST_SECTION c = end_at_next _ _ c.if-k-lt-LAST_SECTION.true c.start_of.ensures

pub returns : goal.returns
returns c = end_of_all _ _ c.if-k-lt-LAST_SECTION.false
