-- The scale has four bits, so nothing is shifted out.
use Rattle.std.proofs.Common.{◌∙◌, ◌<◌, arith}
use Rattle.record_timing.specs.Few.{viewed}
use Rattle.link_figures.specs.Figures.{cpb_size_of, size_at}
use Rattle.link_figures.specs.Bounds.{scaled_whole}
use Rattle.link_figures.proofs.size_of.Goals as goal

pub overflow_add-result-2 : goal.overflow_add-result-2
overflow_add-result-2 c = record { fits = omega (arith, c.cpb_size_scale-scale.ensures, (viewed _ c.args.schedule.now.sublayer.entry.timing.formed c.args.schedule.now.sublayer.entry.timing.timed).hrd.cpb_size_scale) }

pub overflow_shl-result : goal.overflow_shl-result
overflow_shl-result c = omega (arith, c.cpb_size_scale-scale.ensures, (viewed _ c.args.schedule.now.sublayer.entry.timing.formed c.args.schedule.now.sublayer.entry.timing.timed).hrd.cpb_size_scale)

pub returns : goal.returns
unfolding cpb_size_of size_at
returns c =
    let small : c.cpb_size_scale-scale.result < 16 = omega (arith, c.cpb_size_scale-scale.ensures, (viewed _ c.args.schedule.now.sublayer.entry.timing.formed c.args.schedule.now.sublayer.entry.timing.timed).hrd.cpb_size_scale) in
    scaled_whole c.cpb_size_value_minus1.result 4 c.cpb_size_scale-scale.result (omega (arith, c.cpb_size_value_minus1.type_inv)) (omega arith) small ∙ (λ i. cpb_size_of (c.cpb_size_value_minus1.ensures i) (c.cpb_size_scale-scale.ensures i))
