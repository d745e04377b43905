-- `layer_sets::count` meets its contract: the ones of a mask are its layers.
use borrow.Author.Rules.{rules}
use Rattle.layer_sets.specs.MaskLaws.{ones_bits}
use Rattle.layer_sets.proofs.count.Goals as goal

pub returns : goal.returns
returns c = ones_bits c.args.mask (search rules)
