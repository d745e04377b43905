-- Each part in the table's order; a refusal ends the turns of the slots and of the sets.
use Rattle.std.proofs.Common.{rules, arith, ◌≡◌, ◌+◌, ◌≤◌}
use Rattle.refusals.specs.Number.{dpb_max_tid}
use Rattle.vps_definition.specs.DpbParameters.{dpb_sublayer, per_sublayer, dpb_section}
use Rattle.table_steps.specs.Turns.{turns_begin, turns_more, turns_stop}
use Rattle.vps_dpb.proofs.dpb_section.Goals as goal

pub returns-in_err-slots : goal.returns-in_err-slots
unfolding dpb_section
returns-in_err-slots g c = let L = g.S.Steps.laws in search (rules, L.goes_then, L.goes_stop)

pub returns-in_err-check : goal.returns-in_err-check
unfolding dpb_section
returns-in_err-check g c = let L = g.S.Steps.laws in search (rules, L.goes_then, L.goes_stop)

pub returns-in_err-flag : goal.returns-in_err-flag
unfolding dpb_section
returns-in_err-flag g c = let L = g.S.Steps.laws in search (rules, L.goes_then, L.goes_stop)

pub returns-in_err-repeat : goal.returns-in_err-repeat
unfolding dpb_section
returns-in_err-repeat g c =
    let L = g.S.Steps.laws in
    let D = c.in_err-repeat.ensures (per_sublayer c.args.header.default_max_tid_flag c.args.header.max_sublayers_minus1 dpb_max_tid c.in_ok-flag.flag dpb_sublayer) (λ x y r p. p) in
    search (rules, L.goes_then, L.goes_stop, D)

pub returns-in_err-_sets : goal.returns-in_err-_sets
unfolding dpb_section
returns-in_err-_sets g c =
    let L = g.S.Steps.laws in
    let D = c.in_ok-repeat.ensures (per_sublayer c.args.header.default_max_tid_flag c.args.header.max_sublayers_minus1 dpb_max_tid c.in_ok-flag.flag dpb_sublayer) (λ x y r p. p) in
    search (rules, L.goes_then, L.goes_stop, D)

pub loop-i-init : goal.loop-i-init
loop-i-init g c = turns_begin g.S.Steps.laws _ _

pub returns-in_err-ols_dpb : goal.returns-in_err-ols_dpb
unfolding dpb_section
returns-in_err-ols_dpb g c =
    let L = g.S.Steps.laws in
    let D = c.in_ok-repeat.ensures (per_sublayer c.args.header.default_max_tid_flag c.args.header.max_sublayers_minus1 dpb_max_tid c.in_ok-flag.flag dpb_sublayer) (λ x y r p. p) in
    let l : c.loop-i.i + 1 ≤ c.args.multi = omega arith in
    search (rules, L.goes_then, L.goes_stop, D, turns_stop L _ _ l c.loop-i.invariant c.in_err-ols_dpb.ensures)

pub loop-i-preserved : goal.loop-i-preserved
loop-i-preserved g c = turns_more g.S.Steps.laws _ _ c.loop-i.invariant (search rules)

pub returns : goal.returns
unfolding dpb_section
returns g c =
    let L = g.S.Steps.laws in
    let D = c.in_ok-repeat.ensures (per_sublayer c.args.header.default_max_tid_flag c.args.header.max_sublayers_minus1 dpb_max_tid c.in_ok-flag.flag dpb_sublayer) (λ x y r p. p) in
    let m : c.loop-i.i ≡ c.args.multi = omega arith in
    search (rules, L.goes_then, L.goes_done, D, rw m at c.loop-i.invariant)
