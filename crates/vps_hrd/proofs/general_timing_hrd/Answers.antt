-- Each word in the table's order.
use Rattle.std.proofs.Common.{rules}
use Rattle.vps_definition.specs.TimingHrd.{general_timing_hrd}
use Rattle.vps_hrd.proofs.general_timing_hrd.Goals as goal

pub returns-in_err-units : goal.returns-in_err-units
unfolding general_timing_hrd
returns-in_err-units g c = let L = g.S.Steps.laws in search (rules, L.goes_then, L.goes_stop)

pub returns-in_err-scale : goal.returns-in_err-scale
unfolding general_timing_hrd
returns-in_err-scale g c = let L = g.S.Steps.laws in search (rules, L.goes_then, L.goes_stop)

pub returns-in_err-nal : goal.returns-in_err-nal
unfolding general_timing_hrd
returns-in_err-nal g c = let L = g.S.Steps.laws in search (rules, L.goes_then, L.goes_stop)

pub returns-in_err-vcl : goal.returns-in_err-vcl
unfolding general_timing_hrd
returns-in_err-vcl g c = let L = g.S.Steps.laws in search (rules, L.goes_then, L.goes_stop)

pub returns-in_err-check : goal.returns-in_err-check
unfolding general_timing_hrd
returns-in_err-check g c = let L = g.S.Steps.laws in search (rules, L.goes_then, L.goes_stop)

pub returns-in_err-_same_pic_timing : goal.returns-in_err-_same_pic_timing
unfolding general_timing_hrd
returns-in_err-_same_pic_timing g c = let L = g.S.Steps.laws in search (rules, L.goes_then, L.goes_stop)

pub returns-in_err-du : goal.returns-in_err-du
unfolding general_timing_hrd
returns-in_err-du g c = let L = g.S.Steps.laws in search (rules, L.goes_then, L.goes_stop)

pub returns-in_err-_tick_divisor : goal.returns-in_err-_tick_divisor
unfolding general_timing_hrd
returns-in_err-_tick_divisor g c = let L = g.S.Steps.laws in search (rules, L.goes_then, L.goes_stop)

pub returns-in_err-_bit_rate_scale : goal.returns-in_err-_bit_rate_scale
unfolding general_timing_hrd
returns-in_err-_bit_rate_scale g c = let L = g.S.Steps.laws in search (rules, L.goes_then, L.goes_stop)

pub returns-in_err-_size_scale : goal.returns-in_err-_size_scale
unfolding general_timing_hrd
returns-in_err-_size_scale g c = let L = g.S.Steps.laws in search (rules, L.goes_then, L.goes_stop)

pub returns-in_err-_du_size_scale : goal.returns-in_err-_du_size_scale
unfolding general_timing_hrd
returns-in_err-_du_size_scale g c = let L = g.S.Steps.laws in search (rules, L.goes_then, L.goes_stop)

pub returns-in_err-cpb_cnt_minus1 : goal.returns-in_err-cpb_cnt_minus1
unfolding general_timing_hrd
returns-in_err-cpb_cnt_minus1 g c = let L = g.S.Steps.laws in search (rules, L.goes_then, L.goes_stop)

pub returns-in_err-check-2 : goal.returns-in_err-check-2
unfolding general_timing_hrd
returns-in_err-check-2 g c = let L = g.S.Steps.laws in search (rules, L.goes_then, L.goes_stop)

pub returns : goal.returns
unfolding general_timing_hrd
returns g c = let L = g.S.Steps.laws in search (rules, L.goes_then, L.goes_stop, L.goes_done)
