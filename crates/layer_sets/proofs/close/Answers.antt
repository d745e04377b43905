-- `layer_sets::close` meets its contract: it stores what `cover` gives by the masks before.
use Rattle.std.proofs.Common.{ap, set, ◌∙◌}
use Rattle.layer_sets.specs.Closed.{cover_first}
use Rattle.layer_sets.proofs.close.Goals as goal

pub returns-then-i-closed : goal.returns-then-i-closed
returns-then-i-closed c = ap (set c.args.closed.now c.args.i) (c.cover.ensures ∙ cover_first _ _ _)
