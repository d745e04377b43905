-- `layer_sets::is_multi` meets its contract: several layers are more than one.
use mathlib.Core.Path.{ap}
use lib.Dec.{ltb}
use Rattle.layer_sets.proofs.is_multi.Goals as goal

pub returns : goal.returns
returns c = ap (ltb 1) c.count.ensures
