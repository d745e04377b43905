-- Each turn writes the group that comes next.
use Rattle.std.proofs.Common.{rules, arith, ◌-◌, ◌≡◌, ap, ap₂, ◌∙◌, length, take}
use Rattle.std.proofs.lemmas.Result.{err_from_is_err_and}
use Rattle.std.specs.Slice.Iter.{chunks_rest}
use Rattle.writing.specs.Groups.{grouped_none, grouped_bad, grouped_more, grouped_stop, flags_missing}
use Rattle.writing.proofs.Firsts.{there, too_few, handed_on}
use Rattle.writing.proofs.Writing.flags.Goals as goal

pub returns-in_err-flags : goal.returns-in_err-flags
returns-in_err-flags c =
    let none = c.in_err-flags.ensures.ok_part in
    let given = handed_on c.from_residual.result none c.in_err-flags.ensures.value (err_from_is_err_and _ c.from_residual.ensures.1) in
    rw given (flags_missing c.args.count (omega (arith, too_few c.rest.result.now c.args.count c.get.ensures.lookup none, ap length c.rest.ensures)))

pub loop-group-init : goal.loop-group-init
loop-group-init c =
    let n : c.args.count - 0 ≡ c.args.count = omega arith in
    let l = there c.rest.result.now c.args.count c.get.ensures.lookup c.in_ok-flags.ensures.ok_part in
    let first = ap chunks_rest c.into_iter-group-iterator.ensures.into_iter_gives ∙ c.chunks-group-items.ensures.rest ∙ l.1 ∙ ap₂ take n c.rest.ensures in
    (grouped_none first (omega (arith, l.0, ap length c.rest.ensures)), search rules)

pub returns-in_err-value : goal.returns-in_err-value
returns-in_err-value c =
    let steps = c.in-Some.ensures.steps in
    search (rules, grouped_bad c.loop-group.invariant.0 c.in-Some.group.now (chunks_rest c.next.new.self) steps.1.0 c.in_err-value.ensures)

pub returns-in_err-push_field : goal.returns-in_err-push_field
returns-in_err-push_field c =
    let steps = c.in-Some.ensures.steps in
    search (rules, grouped_stop c.loop-group.invariant.0 c.in-Some.group.now (chunks_rest c.next.new.self) steps.1.0 c.in_ok-value.ensures (omega (arith, steps.1.1, c.loop-group.invariant.1)) c.in_err-push_field.ensures)

pub loop-group-preserved : goal.loop-group-preserved
loop-group-preserved c =
    let steps = c.in-Some.ensures.steps in
    (grouped_more c.loop-group.invariant.0 c.in-Some.group.now (chunks_rest c.next.new.self) steps.1.0 c.in_ok-value.ensures (omega (arith, steps.1.1, c.loop-group.invariant.1)) c.in_ok-push_field.ensures, steps.0 ∙ c.loop-group.invariant.1)
