-- By whether the record is well formed.
use Rattle.std.proofs.Common.{sym, ◌∙◌, refl}
use Rattle.record_timing.specs.Timing.{lacks}
use Rattle.record_timing.proofs.lacks.Goals as goal

pub returns-then-is_well_formed : goal.returns-then-is_well_formed
unfolding lacks
returns-then-is_well_formed c = rw (sym c.is_well_formed.ensures ∙ c.if-is_well_formed.true) refl

pub returns : goal.returns
unfolding lacks
returns c = rw (sym c.is_well_formed.ensures ∙ c.if-is_well_formed.false) refl
