-- Each part in the table's order.
use Rattle.std.proofs.Common.{rules}
use Rattle.refusals.specs.Number.{timing_max_tid}
use Rattle.vps_definition.specs.DpbParameters.{per_sublayer}
use Rattle.vps_definition.specs.TimingHrd.{timing_sublayer, timing_section}
use Rattle.vps_entries.specs.Hrd.{hrd_of}
use Rattle.vps_timing.proofs.timing_section.Goals as goal

pub returns-in_err-hrd : goal.returns-in_err-hrd
unfolding timing_section
returns-in_err-hrd g c = let L = g.S.Steps.laws in search (rules, L.goes_then, L.goes_stop)

pub returns-in_err-flag : goal.returns-in_err-flag
unfolding timing_section
returns-in_err-flag g c = let L = g.S.Steps.laws in search (rules, L.goes_then, L.goes_stop)

pub returns-in_err-entries : goal.returns-in_err-entries
unfolding timing_section
returns-in_err-entries g c = let L = g.S.Steps.laws in search (rules, L.goes_then, L.goes_stop)

pub returns-in_err-check : goal.returns-in_err-check
unfolding timing_section
returns-in_err-check g c = let L = g.S.Steps.laws in search (rules, L.goes_then, L.goes_stop)

pub returns-in_err-repeat : goal.returns-in_err-repeat
unfolding timing_section
returns-in_err-repeat g c =
    let L = g.S.Steps.laws in
    let E = c.in_err-repeat.ensures (per_sublayer c.args.header.default_max_tid_flag c.args.header.max_sublayers_minus1 timing_max_tid c.in_ok-flag.flag (timing_sublayer (hrd_of c.in_ok-hrd.hrd))) (λ x y r p. p) in
    search (rules, L.goes_then, L.goes_stop, E)

pub returns : goal.returns
unfolding timing_section
returns g c =
    let L = g.S.Steps.laws in
    let E = c.in_ok-repeat.ensures (per_sublayer c.args.header.default_max_tid_flag c.args.header.max_sublayers_minus1 timing_max_tid c.in_ok-flag.flag (timing_sublayer (hrd_of c.in_ok-hrd.hrd))) (λ x y r p. p) in
    search (rules, L.goes_then, L.goes_stop, E)
