-- `layer_sets::union` meets its contract: or-ing masks is union.
use borrow.Author.Rules.{rules}
use Rattle.layer_sets.specs.MaskLaws.{or_bits}
use Rattle.layer_sets.proofs.union.Goals as goal

pub returns : goal.returns
returns c = or_bits c.args.a c.args.b (search rules) (search rules)
