-- The field is the bit reader's, and the record keeps it elsewhere.
use Rattle.vps_definition.specs.Words.{general}
use Rattle.reading.specs.Steps.{meets_late, passed_within}
use Rattle.reading.proofs.ReadingSteps.general.Goals as goal

pub returns-clause-goes : goal.returns-clause-goes
unfolding general
returns-clause-goes c = meets_late _ _ _ c.pass.ensures

pub returns-clause-within : goal.returns-clause-within
returns-clause-within c = passed_within _ _ _ _ c.pass.ensures
