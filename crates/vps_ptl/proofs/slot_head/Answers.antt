-- Each number in the table's order, and the rule.
use Rattle.std.proofs.Common.{rules}
use Rattle.vps_definition.specs.Vps.{ptl_head}
use Rattle.vps_ptl.proofs.slot_head.Goals as goal

pub returns-in_err-present-clause-goes : goal.returns-in_err-present-clause-goes
unfolding ptl_head
returns-in_err-present-clause-goes g c heads at = let L = g.S.Steps.laws in search (rules, L.goes_then, L.goes_stop, c.in_err-present.ensures.goes _ at)

pub returns-in_err-max_tid-clause-goes : goal.returns-in_err-max_tid-clause-goes
unfolding ptl_head
returns-in_err-max_tid-clause-goes g c heads at =
    let L = g.S.Steps.laws in
    let at' = c.in_ok-present.ensures.stays _ _ at in
    search (rules, L.goes_then, L.goes_stop, c.in_ok-present.ensures.goes _ at, c.in_err-max_tid.ensures.goes _ at')

pub returns-in_err-check-clause-goes : goal.returns-in_err-check-clause-goes
unfolding ptl_head
returns-in_err-check-clause-goes g c heads at =
    let L = g.S.Steps.laws in
    let at' = c.in_ok-present.ensures.stays _ _ at in
    search (rules, L.goes_then, L.goes_stop, c.in_ok-present.ensures.goes _ at, c.in_ok-max_tid.ensures.goes _ at')

pub returns-clause-goes : goal.returns-clause-goes
unfolding ptl_head
returns-clause-goes g c heads at =
    let L = g.S.Steps.laws in
    let at' = c.in_ok-present.ensures.stays _ _ at in
    search (rules, L.goes_then, L.goes_done, c.in_ok-present.ensures.goes _ at, c.in_ok-max_tid.ensures.goes _ at')
