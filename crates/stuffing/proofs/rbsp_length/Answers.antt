-- `rbsp_length` meets its contract: in each turn what is counted, with what removing leaves of the rest, is the whole.
use Rattle.std.proofs.Common.{sym, subst, ap, ◌∙◌, arith, rules, ◌≤◌, ◌+◌, length, get_or}
use Rattle.stuffing.specs.Laws.{unstuff_length}
use Rattle.stuffing.proofs.Steps.{Measured, drops, measured_drop, measured_three, measured_one, measured_end, measured_few}
use Rattle.stuffing.proofs.rbsp_length.Goals as goal

pub loop-three-preserved-then-is_dropped : goal.loop-three-preserved-then-is_dropped
loop-three-preserved-then-is_dropped c =
    let three = c.in-Some.ensures.cases in
    let falls = ap drops (sym three.0) ∙ sym c.is_dropped.ensures ∙ c.if-is_dropped.true in
    subst (λ r. Measured c.args.ebsp.now r (c.loop-three.n + 2)) (sym three.1) (measured_drop c.args.ebsp.now c.loop-three.rest.now c.loop-three.n c.loop-three.invariant (omega (arith, three.2)) falls)

pub loop-three-preserved-then-three-ne0 : goal.loop-three-preserved-then-three-ne0
loop-three-preserved-then-three-ne0 c =
    let three = c.in-Some.ensures.cases in
    let keeps = ap drops (sym three.0) ∙ sym c.is_dropped.ensures ∙ c.if-is_dropped.false in
    subst (λ r. Measured c.args.ebsp.now r (c.loop-three.n + 3)) (sym three.1) (measured_three c.args.ebsp.now c.loop-three.rest.now c.loop-three.n c.loop-three.invariant (omega (arith, three.2)) keeps (λ z. c.if-three-ne0.true (ap (λ t. get_or t 2 0) three.0 ∙ z)))

pub loop-three-preserved : goal.loop-three-preserved
loop-three-preserved c =
    let three = c.in-Some.ensures.cases in
    let keeps = ap drops (sym three.0) ∙ sym c.is_dropped.ensures ∙ c.if-is_dropped.false in
    measured_one c.args.ebsp.now c.loop-three.rest.now c.loop-three.n c.loop-three.invariant (omega (arith, three.2)) keeps

pub returns : goal.returns
returns c = measured_end _ _ _ c.loop-three.invariant c.in_default.ensures.cases

-- as many as the payload has fit
pub overflow_add-n : goal.overflow_add-n
overflow_add-n c = let few = measured_few _ _ _ (loop-three-preserved-then-is_dropped c) in search (rules, few)

pub overflow_add-n-then-three-ne0 : goal.overflow_add-n-then-three-ne0
overflow_add-n-then-three-ne0 c = let few = measured_few _ _ _ (loop-three-preserved-then-three-ne0 c) in search (rules, few)

pub overflow_add-n-else-three-ne0 : goal.overflow_add-n-else-three-ne0
overflow_add-n-else-three-ne0 c =
    let three = c.in-Some.ensures.cases in
    let keeps = ap drops (sym three.0) ∙ sym c.is_dropped.ensures ∙ c.if-is_dropped.false in
    let few = measured_few _ _ _ (measured_one c.args.ebsp.now c.loop-three.rest.now c.loop-three.n c.loop-three.invariant (omega (arith, three.2)) keeps) in
    search (rules, few)

pub overflow_add-result : goal.overflow_add-result
overflow_add-result c = let few : c.loop-three.n + length c.loop-three.rest.now ≤ length c.args.ebsp.now = omega (arith, measured_end _ _ _ c.loop-three.invariant c.in_default.ensures.cases, unstuff_length c.args.ebsp.now) in search (rules, few)
