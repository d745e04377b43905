-- `section_part` meets its contract: the empty part at the end, or the part by the trailer's starts.
use Rattle.vps_sections.specs.Parts.{part_over, part_ill_formed, part_rises, part_listed}
use Rattle.std.proofs.lemmas.Bool.{not_from_false, not_from_true}
use Rattle.vps_sections.proofs.section_part.Goals as goal

pub returns-then-number-gt-LAST : goal.returns-then-number-gt-LAST
returns-then-number-gt-LAST c = part_over _ _ c.if-number-gt-LAST.true

pub returns-then-not-is_well_formed : goal.returns-then-not-is_well_formed
returns-then-not-is_well_formed c = part_ill_formed _ _ c.is_well_formed.ensures (not_from_false _ c.if-not-is_well_formed.true)

pub overflow_sub-result : goal.overflow_sub-result
overflow_sub-result c = part_rises _ _ c.is_well_formed.ensures c.if-number-gt-LAST.false (not_from_true _ c.if-not-is_well_formed.false) c.start_of-start.ensures c.end_of-end.ensures

pub returns : goal.returns
returns c = part_listed _ _ c.is_well_formed.ensures c.if-number-gt-LAST.false (not_from_true _ c.if-not-is_well_formed.false) c.start_of-start.ensures c.end_of-end.ensures
