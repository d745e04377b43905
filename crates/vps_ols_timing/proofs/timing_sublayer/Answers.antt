-- Each word in the table's order.
use Rattle.std.proofs.Common.{rules}
use Rattle.vps_definition.specs.TimingHrd.{sublayer_hrd, timing_sublayer}
use Rattle.vps_entries.specs.Hrd.{hrd_of}
use Rattle.vps_ols_timing.proofs.timing_sublayer.Goals as goal

pub returns-in_err-general : goal.returns-in_err-general
unfolding timing_sublayer
returns-in_err-general g c = let L = g.S.Steps.laws in search (rules, L.goes_then, L.goes_stop)

pub returns-in_err-within : goal.returns-in_err-within
unfolding timing_sublayer
returns-in_err-within g c = let L = g.S.Steps.laws in search (rules, L.goes_then, L.goes_stop)

pub returns-in_err-duration : goal.returns-in_err-duration
unfolding timing_sublayer
returns-in_err-duration g c = let L = g.S.Steps.laws in search (rules, L.goes_then, L.goes_stop)

pub returns-in_err-check : goal.returns-in_err-check
unfolding timing_sublayer
returns-in_err-check g c = let L = g.S.Steps.laws in search (rules, L.goes_then, L.goes_stop)

pub returns-in_err-_low_delay : goal.returns-in_err-_low_delay
unfolding timing_sublayer
returns-in_err-_low_delay g c = let L = g.S.Steps.laws in search (rules, L.goes_then, L.goes_stop)

pub returns-in_err-when : goal.returns-in_err-when
unfolding timing_sublayer
returns-in_err-when g c =
    let L = g.S.Steps.laws in
    let N = c.in_err-when.ensures (sublayer_hrd (hrd_of c.args.hrd)) (λ x y r p. p) in
    search (rules, L.goes_then, L.goes_stop, N)

pub returns : goal.returns
unfolding timing_sublayer
returns g c =
    let L = g.S.Steps.laws in
    let N = c.in_ok-when.ensures (sublayer_hrd (hrd_of c.args.hrd)) (λ x y r p. p) in
    let V = c.when.ensures (sublayer_hrd (hrd_of c.args.hrd)) (λ x y r p. p) in
    search (rules, L.goes_then, L.goes_stop, L.goes_done, N, V)
