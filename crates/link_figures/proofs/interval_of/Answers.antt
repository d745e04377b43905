-- The elemental duration is at most 2,047 and the scale above 0 in every well-formed record.
use Rattle.std.proofs.Common.{◌≤◌, refl, arith, eq-eqb, ne_eqb, get_or}
use Rattle.vps_definition.specs.Views.{sublayer_at}
use Rattle.record_timing.specs.Few.{viewed, sublayer_numbered}
use Rattle.link_figures.specs.Figures.{microseconds_of, interval_of, interval_at}
use Rattle.link_figures.specs.Bounds.{microseconds_most}
use Rattle.link_figures.proofs.interval_of.Goals as goal

pub returns-then-fixed_pic_rate_within_cvs_flag-ne1 : goal.returns-then-fixed_pic_rate_within_cvs_flag-ne1
unfolding interval_at
returns-then-fixed_pic_rate_within_cvs_flag-ne1 c =
    let s = c.args.sublayer.now in
    rw (ne_eqb (get_or (sublayer_at s.entry.timing.«record».now s.entry.index s.index) 1 0) 1 (λ e. omega (arith, e, c.fixed_pic_rate_within_cvs_flag.ensures, c.if-fixed_pic_rate_within_cvs_flag-ne1.true))) refl

pub overflow_mul-result : goal.overflow_mul-result
unfolding microseconds_of
overflow_mul-result c = record {
  fits =
      let s = c.args.sublayer.now in
      let short : c.elemental_duration_in_tc_minus1.result ≤ 2047 = omega (arith, c.elemental_duration_in_tc_minus1.ensures, (sublayer_numbered _ s.entry.timing.formed s.entry.timing.timed _ s.entry.there _ s.there).elemental) in
      omega (arith, microseconds_most c.elemental_duration_in_tc_minus1.result c.units_in_tick.result short (omega (arith, c.units_in_tick.type_inv)));
}

pub nonzero_div-result : goal.nonzero_div-result
nonzero_div-result c = omega (arith, c.time_scale.ensures, (viewed _ c.args.sublayer.now.entry.timing.formed c.args.sublayer.now.entry.timing.timed).hrd.scale)

pub returns : goal.returns
unfolding microseconds_of interval_of interval_at
returns c =
    let s = c.args.sublayer.now in
    rw (eq-eqb (get_or (sublayer_at s.entry.timing.«record».now s.entry.index s.index) 1 0) 1 (omega (arith, c.fixed_pic_rate_within_cvs_flag.ensures, c.if-fixed_pic_rate_within_cvs_flag-ne1.false)), c.elemental_duration_in_tc_minus1.ensures, c.units_in_tick.ensures, c.time_scale.ensures) refl
