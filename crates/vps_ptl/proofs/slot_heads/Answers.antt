-- Each turn is a head, which is stored behind the others; a refusal ends the turns.
use Rattle.std.proofs.Common.{◌+◌, ◌<◌, ◌≤◌, ◌∙◌, length, take, arith, rules}
use Rattle.table_steps.specs.Turns.{turns_begin, turns_more, turns_stop}
use Rattle.vps_ptl.specs.Heads.{table_heads, heads_more}
use Rattle.vps_ptl.proofs.slot_heads.Goals as goal

pub loop-i-init : goal.loop-i-init
loop-i-init g c = (turns_begin g.S.Steps.laws _ _, c.first_slot-slot.ensures)

pub returns-in_err-head : goal.returns-in_err-head
returns-in_err-head g c =
    let L = g.S.Steps.laws in
    let I = c.loop-i.invariant in
    let h : c.loop-i.i + 1 ≤ length c.loop-i.heads = omega (arith, c.loop-i-test.true) in
    search (rules, turns_stop L _ _ h I.0 (c.in_err-head.ensures.goes _ I.1))

pub loop-i-preserved : goal.loop-i-preserved
loop-i-preserved g c =
    let L = g.S.Steps.laws in
    let I = c.loop-i.invariant in
    let h : c.loop-i.i < length c.loop-i.heads = omega (arith, c.loop-i-test.true) in
    let H = c.in_ok-head.ensures.goes (table_heads (take c.loop-i.i c.loop-i.heads)) I.1 in
    let e = H.1 ∙ heads_more c.loop-i.heads c.loop-i.i c.in_ok-head.field-0 h in
    (search (rules, turns_more L _ _ I.0 H.2, e), c.next_slot-slot.ensures _ (c.in_ok-head.ensures.stays _ _ I.1))
