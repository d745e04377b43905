-- `put_field` meets its contract: what is written, with the bits that are left, is the whole field; the bits left fall by one.
use Rattle.std.proofs.Common.{◌-◌, ◌≡◌, ◌∙◌, arith, refl, rules}
use Rattle.bit_writer.proofs.Steps.{field_start, field_step, field_done}
use Rattle.bit_writer.proofs.put_field.Goals as goal

pub loop-i-init : goal.loop-i-init
loop-i-init c =
    let left : c.into_iter-i-iterator.result.a.iter.end ≡ c.args.width = search rules in
    let place : c.into_iter-i-iterator.result.b.start ≡ c.args.at = search rules in
    let low : c.into_iter-i-iterator.result.a.iter.start ≡ 0 = search rules in
    (low, field_start _ _ _ _ left place)

pub overflow_shr-value : goal.overflow_shr-value
overflow_shr-value c = omega (arith, c.in-Some.ensures.steps, c.loop-i.invariant.1.below)

pub put_bit-requires : goal.put_bit-requires
put_bit-requires c = (omega arith, omega (arith, c.in-Some.ensures.steps, c.loop-i.invariant.1.place, c.loop-i.invariant.1.long))

pub loop-i-preserved : goal.loop-i-preserved
loop-i-preserved c =
    let steps = c.in-Some.ensures.steps in
    let half = c.loop-i.invariant.1 in
    let i : c.in-Some.i ≡ c.loop-i.i-iterator.a.iter.end - 1 = omega (arith, steps) in
    (omega (arith, steps, c.loop-i.invariant.0), field_step half (omega (arith, steps)) (c.put_bit.ensures ∙ rw (steps.1.0, i) refl) (omega (arith, steps)) (omega (arith, steps)))

pub returns : goal.returns
returns c = field_done c.loop-i.invariant.1 (search rules)
