-- A dependent layer's flags, or none.
use Rattle.std.proofs.Common.{rules}
use Rattle.record_layers.specs.Turns.{mask_dependent, mask_independent}
use Rattle.record_layers.proofs.Entry.direct_mask.Goals as goal

pub returns-then-is_dependent : goal.returns-then-is_dependent
returns-then-is_dependent c = search (rules, mask_dependent)

pub returns : goal.returns
returns c = search (rules, mask_independent)
