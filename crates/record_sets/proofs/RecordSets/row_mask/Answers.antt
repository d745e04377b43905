-- What the output layers of a row reach is in the masks of the first layers.
use Rattle.std.proofs.Common.{◌∙◌}
use Rattle.record_sets.specs.Sets.{row_covered}
use Rattle.record_sets.proofs.RecordSets.row_mask.Goals as goal

pub returns : goal.returns
returns c = c.cover.ensures ∙ row_covered _ _ _ c.args.self.now.masked c.layers.ensures c.front-closed.ensures c.row.ensures c.of_flags.ensures
