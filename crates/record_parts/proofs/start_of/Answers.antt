-- `start_of` meets its contract.
use Rattle.record_parts.specs.Starts.{start_of_general, start_listed, start_of_trailer}
use Rattle.record_parts.proofs.start_of.Goals as goal

pub returns-then-k-eq0 : goal.returns-then-k-eq0
returns-then-k-eq0 c = start_of_general _ _ c.if-k-eq0.true

pub returns-then-k-lt-STARTS : goal.returns-then-k-lt-STARTS
returns-then-k-lt-STARTS c = start_listed _ _ c.if-k-eq0.false c.if-k-lt-STARTS.true c.trailer_start.ensures c.number_at.ensures

pub returns : goal.returns
returns c = start_of_trailer _ _ c.if-k-eq0.false c.if-k-lt-STARTS.false c.trailer_start-2.ensures
