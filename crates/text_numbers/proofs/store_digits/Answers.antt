-- `store_digits` meets its contract: the digits behind a place stand in the room, and the rest's belong before them.
use Rattle.std.proofs.Common.{arith, refl, rules}
use Rattle.text_numbers.specs.Decimal.{stands_more, stands_end}
use Rattle.text_numbers.proofs.store_digits.Goals as goal
use Rattle.text_numbers.proofs.store_digits.Goals.{then-loop-at-test+else-rest-ge10, else-loop-at-test}

pub loop-at-preserved : goal.loop-at-preserved
loop-at-preserved c = stands_more c.loop-at-test.true c.if-rest-ge10.true (search rules) refl c.loop-at.invariant

pub returns-clause-digits : goal.returns-clause-digits
returns-clause-digits c =
    elim c.loop-at-test.branch [
      | then-loop-at-test+else-rest-ge10 w ↦ stands_end (λ l. w.if-rest-ge10.false) (search rules) refl c.loop-at.invariant
      | else-loop-at-test w ↦ stands_end (λ l. absurd (omega (arith, l, w.loop-at-test.false))) (search rules) refl c.loop-at.invariant
    ]
