use Rattle.text_numbers.specs.Decimal.{Stands}
use Rattle.text_numbers.proofs.store_digits.Given as goal

abbrev pub invariant-loop-at : goal.invariant-loop-at
invariant-loop-at l = Stands l.fn.n l.rest l.at l.room

abbrev pub decreases-loop-at : goal.decreases-loop-at
decreases-loop-at l = l.at
