-- The DPB section, the flag, and timing where it says so.
use Rattle.std.proofs.Common.{rules}
use Rattle.vps_definition.specs.TimingHrd.{timing_section}
use Rattle.vps_fields.specs.Header.{header_of}
use Rattle.vps_table.specs.Buffers.{multi_dpb, multi_present, multi_timing, multi_done}
use Rattle.vps_table.proofs.buffers.Buffers.multi_layer.Goals as goal

pub returns-in_err-flag : goal.returns-in_err-flag
returns-in_err-flag g c = let b = multi_dpb g.S.Steps.laws (header_of c.args.h) _ c.in_err-flag.ensures in search (rules, b)

pub returns-in_err-present : goal.returns-in_err-present
returns-in_err-present g c = let b = multi_present g.S.Steps.laws (header_of c.args.h) _ c.in_ok-flag.ensures c.in_err-present.ensures.goes in search (rules, b)

pub returns-in_err-when : goal.returns-in_err-when
returns-in_err-when g c =
    let T = c.in_err-when.ensures (timing_section c.args.h.default_max_tid_flag c.args.h.max_sublayers_minus1 c.args.multi) (λ x y r p. p) in
    let b = multi_timing g.S.Steps.laws (header_of c.args.h) _ c.in_ok-flag.ensures c.in_ok-present.ensures.goes T in
    search (rules, b)

pub returns : goal.returns
returns g c =
    let T = c.in_ok-when.ensures (timing_section c.args.h.default_max_tid_flag c.args.h.max_sublayers_minus1 c.args.multi) (λ x y r p. p) in
    multi_done g.S.Steps.laws (header_of c.args.h) _ c.in_ok-flag.ensures c.in_ok-present.ensures.goes c.place-dpb.ensures c.place-timing.ensures T
