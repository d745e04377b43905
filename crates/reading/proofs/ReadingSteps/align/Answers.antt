-- The bits to the boundary are passed; a one among them is refused where a refusal is named.
use Rattle.std.proofs.Common.{rules}
use Rattle.reading.specs.Steps.{meets_not_passed, room_aligned, meets_zeros, meets_passed, meets_one}
use Rattle.reading.proofs.ReadingSteps.align.Goals as goal

pub returns-in_err-bits : goal.returns-in_err-bits
returns-in_err-bits c = search (rules, meets_not_passed, room_aligned)

pub returns-in_default : goal.returns-in_default
returns-in_default c = rw c.in_default.is (meets_passed (rw c.to_boundary.ensures.0 at c.in_ok-bits.ensures.stands))

pub returns-then-bits-eq0 : goal.returns-then-bits-eq0
returns-then-bits-eq0 c = meets_zeros _ (rw c.to_boundary.ensures.0 at c.in_ok-bits.ensures.value) c.if-bits-eq0.true (rw c.to_boundary.ensures.0 at c.in_ok-bits.ensures.stands)

pub returns-else-bits-eq0 : goal.returns-else-bits-eq0
returns-else-bits-eq0 c = rw c.in-Some.is (meets_one (rw c.to_boundary.ensures.0 at c.in_ok-bits.ensures.value) c.if-bits-eq0.false (rw c.to_boundary.ensures.0 at c.in_ok-bits.ensures.stands))
