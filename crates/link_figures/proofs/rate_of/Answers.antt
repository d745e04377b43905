-- The scale has four bits, so nothing is shifted out.
use Rattle.std.proofs.Common.{◌∙◌, ◌<◌, arith}
use Rattle.record_timing.specs.Few.{viewed}
use Rattle.link_figures.specs.Figures.{bit_rate_of, rate_at}
use Rattle.link_figures.specs.Bounds.{scaled_whole}
use Rattle.link_figures.proofs.rate_of.Goals as goal

pub overflow_add-result-2 : goal.overflow_add-result-2
overflow_add-result-2 c = record { fits = omega (arith, c.bit_rate_scale-scale.ensures, (viewed _ c.args.schedule.now.sublayer.entry.timing.formed c.args.schedule.now.sublayer.entry.timing.timed).hrd.bit_rate_scale) }

pub overflow_shl-result : goal.overflow_shl-result
overflow_shl-result c = omega (arith, c.bit_rate_scale-scale.ensures, (viewed _ c.args.schedule.now.sublayer.entry.timing.formed c.args.schedule.now.sublayer.entry.timing.timed).hrd.bit_rate_scale)

pub returns : goal.returns
unfolding bit_rate_of rate_at
returns c =
    let small : c.bit_rate_scale-scale.result < 16 = omega (arith, c.bit_rate_scale-scale.ensures, (viewed _ c.args.schedule.now.sublayer.entry.timing.formed c.args.schedule.now.sublayer.entry.timing.timed).hrd.bit_rate_scale) in
    scaled_whole c.bit_rate_value_minus1.result 6 c.bit_rate_scale-scale.result (omega (arith, c.bit_rate_value_minus1.type_inv)) (omega arith) small ∙ (λ i. bit_rate_of (c.bit_rate_value_minus1.ensures i) (c.bit_rate_scale-scale.ensures i))
