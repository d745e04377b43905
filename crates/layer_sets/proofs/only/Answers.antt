-- `layer_sets::only` meets its contract: the empty mask with one layer.
use Rattle.std.proofs.Common.{◌∙◌}
use Rattle.layer_sets.specs.MaskLaws.{mask_only}
use Rattle.layer_sets.proofs.only.Goals as goal

pub returns : goal.returns
returns c = c.with.ensures ∙ mask_only c.args.i
