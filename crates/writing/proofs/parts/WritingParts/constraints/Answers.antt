-- The length is what the bits say, and all bits follow in the record's order.
use Rattle.std.proofs.Common.{ap, ◌∙◌, rules}
use Rattle.ptl_slots.specs.Slot.{more_constraints}
use Rattle.writing.specs.Marked.{laws}
use Rattle.writing.specs.Constraints.{emits_constraints}
use Rattle.writing.proofs.parts.WritingParts.constraints.Goals as goal

pub returns-in_err-infer : goal.returns-in_err-infer
returns-in_err-infer c = search (rules, emits_constraints (c.more_constraints.ensures.0 ∙ ap more_constraints c.rest.ensures) (laws.goes_stop _ _ c.in_err-infer.ensures.goes))

pub returns : goal.returns
returns c = emits_constraints (c.more_constraints.ensures.0 ∙ ap more_constraints c.rest.ensures) (laws.goes_then _ _ c.in_ok-infer.ensures.goes (rw c.in_ok-infer.ensures.same c.flags.ensures))
