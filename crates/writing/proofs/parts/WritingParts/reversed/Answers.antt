-- Each turn writes the last field that is left, and then the numbers are passed.
use Rattle.std.proofs.Common.{ℕ, ◌≡◌, ◌≤◌, ◌+◌, ◌-◌, ◌++◌, ◌∷◌, [], rules, arith, ap, sym, subst, ◌∙◌, length, take, drop, length-append, length-take}
use Rattle.std.proofs.lemmas.Result.{err_from_is_err_and}
use Rattle.std.specs.Slice.Iter.{iter_rest}
use Rattle.std.specs.Iterator.Adapters.{rev_source}
use Rattle.bits.specs.Bits.{field_width}
use Rattle.writing.specs.Steps.{passed}
use Rattle.writing.specs.Reversed.{Falling, reversed_short, last_within, last_is, falling_begin, falling_turn, falling_stop, falling_all}
use Rattle.writing.proofs.Firsts.{there, too_few, handed_on}
use Rattle.writing.proofs.parts.WritingParts.reversed.Goals as goal

pub returns-in_err-numbers-clause-goes : goal.returns-in_err-numbers-clause-goes
returns-in_err-numbers-clause-goes c =
    let none = c.in_err-numbers.ensures.ok_part in
    let given = handed_on c.from_residual.result none c.in_err-numbers.ensures.value (err_from_is_err_and _ c.from_residual.ensures.1) in
    rw given (reversed_short c.args.count (field_width c.args.width) (omega (arith, too_few c.rest.result.now c.args.count c.get.ensures.lookup none, ap length c.rest.ensures)))

pub loop-v-init : goal.loop-v-init
loop-v-init c =
    let L = there c.rest.result.now c.args.count c.get.ensures.lookup c.in_ok-numbers.ensures.ok_part in
    (falling_begin, omega arith, ap (λ s. iter_rest (rev_source s)) c.into_iter-v-iterator.ensures.into_iter_gives ∙ ap iter_rest c.rev-v-items.ensures.source ∙ c.iter.ensures.rest ∙ L.1 ∙ ap (take (c.args.count - 0)) c.rest.ensures)

pub returns-in_err-push_field-clause-goes : goal.returns-in_err-push_field-clause-goes
returns-in_err-push_field-clause-goes c =
    let I = c.loop-v.invariant in
    let l = drop c.args.self.now.c c.args.self.now.rec.now in
    let long : c.args.count ≤ length l = omega (arith, (there c.rest.result.now c.args.count c.get.ensures.lookup c.in_ok-numbers.ensures.ok_part).0, ap length c.rest.ensures) in
    let e = sym I.2 ∙ c.in-Some.ensures.steps in
    search (rules, falling_stop I.0 (last_within l _ _ c.args.count (length c.loop-v.yielded) long e) (last_is l _ _ c.args.count (length c.loop-v.yielded) long e).1 c.in_err-push_field.ensures)

pub loop-v-preserved : goal.loop-v-preserved
loop-v-preserved c =
    let I = c.loop-v.invariant in
    let s = c.args.self.now in
    let n = c.args.count in
    let l = drop s.c s.rec.now in
    let i = length c.loop-v.yielded in
    let long : n ≤ length l = omega (arith, (there c.rest.result.now c.args.count c.get.ensures.lookup c.in_ok-numbers.ensures.ok_part).0, ap length c.rest.ensures) in
    let e = sym I.2 ∙ c.in-Some.ensures.steps in
    let h = last_within l _ _ n i long e in
    let S = last_is l _ _ n i long e in
    let one : i + 1 ≡ length (c.loop-v.yielded ++ (c.in-Some.field-0 ∷ [])) = sym (length-append c.loop-v.yielded (c.in-Some.field-0 ∷ [])) in
    subst (λ (j : ℕ). Falling n (field_width c.args.width) s j c.push_field.new.self (c.loop-v.sum + c.in-Some.field-0.now) × (j ≤ n) × (iter_rest (rev_source c.next.new.self) ≡ take (n - j) l)) one
    (falling_turn I.0 h S.1 (search rules) c.in_ok-push_field.ensures, omega (arith, h), S.0)

pub returns-clause-goes : goal.returns-clause-goes
returns-clause-goes c =
    let I = c.loop-v.invariant in
    let l = drop c.args.self.now.c c.args.self.now.rec.now in
    let n = c.args.count in
    let i = length c.loop-v.yielded in
    let long : n ≤ length l = omega (arith, (there c.rest.result.now c.args.count c.get.ensures.lookup c.in_ok-numbers.ensures.ok_part).0, ap length c.rest.ensures) in
    falling_all I.0 (omega (arith, c.in-None.ensures.steps.0, ap length I.2, length-take (n - i) l, long)) I.1 long (passed n)
