-- A dependent layer has a pair for each layer below it.
use Rattle.std.proofs.Common.{rules}
use Rattle.record_layers.specs.Turns.{length_dependent, length_independent}
use Rattle.record_layers.proofs.Entry.length.Goals as goal

pub returns-then-is_dependent : goal.returns-then-is_dependent
returns-then-is_dependent c = search (rules, length_dependent)

pub returns : goal.returns
returns c = search (rules, length_independent)
