-- The masks are made with room for 64 layers, so that each layer of a well-formed record has its own.
use Rattle.std.proofs.Common.{rules, arith}
use Rattle.record_sets.specs.Sets.{masked_by}
use Rattle.record_sets.proofs.RecordSets.of.Goals as goal

pub invariant_of-result : goal.invariant_of-result
invariant_of-result c = record { masked = masked_by _ (search (rules, c.is_well_formed.ensures, c.if-not-is_well_formed.false)) (omega arith) c.number_at-n.ensures c.layer_masks.ensures }
