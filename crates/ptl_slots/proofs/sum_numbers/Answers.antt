-- `sum_numbers` meets its contract: the sum of the numbers that stand there; those past the end are zeros.
use Rattle.std.proofs.Common.{◌∙◌, refl, ap, ◌+◌}
use Rattle.std.specs.Prelude.{get_or}
use Rattle.vps_definition.specs.Words.{sum}
use Rattle.ptl_slots.specs.Standing.{sum_more, capped_over, capped_all}
use Rattle.ptl_slots.proofs.sum_numbers.Goals as goal

pub loop-v-init : goal.loop-v-init
unfolding sum
loop-v-init c = refl

pub returns-then-numbers-sum : goal.returns-then-numbers-sum
returns-then-numbers-sum c = capped_over c.args.numbers.now c.front-v-items.result.now c.args.count c.loop-v.v-index _ c.front-v-items.ensures c.loop-v.invariant c.if-numbers-sum.true

pub loop-v-preserved : goal.loop-v-preserved
loop-v-preserved c =
    ap (λ s. s + get_or c.front-v-items.result.now c.loop-v.v-index 0) c.loop-v.invariant ∙ sum_more c.loop-v.v-index c.front-v-items.result.now c.loop-v-test.true

pub returns : goal.returns
returns c = capped_all c.args.numbers.now c.front-v-items.result.now c.args.count c.loop-v.v-index _ c.front-v-items.ensures c.loop-v.invariant c.loop-v-test.false
