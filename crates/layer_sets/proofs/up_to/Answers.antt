-- `layer_sets::up_to` meets its contract: all bits, shifted down by those that are too many.
use Rattle.std.proofs.Common.{ap, ◌∙◌, ℕ, ◌/◌, ◌^◌}
use Rattle.layer_sets.specs.MaskLaws.{mask_first}
use Rattle.layer_sets.proofs.up_to.Goals as goal

pub returns : goal.returns
returns c = ap (λ (k : ℕ). 18446744073709551615 / 2 ^ k) c.saturating_sub.ensures ∙ mask_first c.args.i
