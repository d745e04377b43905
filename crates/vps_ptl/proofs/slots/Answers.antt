-- Each turn is a slot by its stored head; a refusal ends the turns.
use Rattle.std.proofs.Common.{◌+◌, ◌≤◌, Ok, Err, length, arith, rules}
use Rattle.table_steps.specs.Laws.{goes_as}
use Rattle.table_steps.specs.Turns.{turns_begin, turns_more, turns_stop}
use Rattle.vps_ptl.specs.Heads.{stored_slot}
use Rattle.vps_ptl.proofs.slots.Goals as goal

pub loop-kept-init : goal.loop-kept-init
loop-kept-init g c = turns_begin g.S.Steps.laws _ _

pub returns-in_err-profile_tier_level : goal.returns-in_err-profile_tier_level
returns-in_err-profile_tier_level g c =
    let L = g.S.Steps.laws in
    let h : c.loop-kept.kept-index + 1 ≤ length c.args.heads.now = omega (arith, c.loop-kept-test.true) in
    let H = goes_as L {r = Err c.in_err-profile_tier_level.field-0.0} (stored_slot c.args.heads.now c.loop-kept.kept-index) c.in_err-profile_tier_level.ensures in
    search (rules, turns_stop L _ _ h c.loop-kept.invariant H)

pub loop-kept-preserved : goal.loop-kept-preserved
loop-kept-preserved g c =
    let L = g.S.Steps.laws in
    let H = goes_as L {r = Ok tt} (stored_slot c.args.heads.now c.loop-kept.kept-index) c.in_ok-profile_tier_level.ensures in
    turns_more L _ _ {r = Ok tt} c.loop-kept.invariant H
