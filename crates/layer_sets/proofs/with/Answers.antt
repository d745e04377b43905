-- `layer_sets::with` meets its contract: or-ing a single shifted bit adds that layer, and none is added from 64 on.
use borrow.Author.Rules.{rules}
use Rattle.layer_sets.specs.MaskLaws.{set_bit_lem, set_none}
use Rattle.layer_sets.proofs.with.Goals as goal

pub returns-then-j-lt-MOST_LAYERS : goal.returns-then-j-lt-MOST_LAYERS
returns-then-j-lt-MOST_LAYERS c = set_bit_lem c.args.mask c.args.j (search rules) c.if-j-lt-MOST_LAYERS.true

pub returns : goal.returns
returns c = set_none c.args.mask c.args.j (search rules) c.if-j-lt-MOST_LAYERS.false
