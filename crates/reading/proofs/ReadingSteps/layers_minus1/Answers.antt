-- The field is the bit reader's, and the record keeps it elsewhere.
use Rattle.reading.specs.Steps.{meets_late, passed_within}
use Rattle.reading.proofs.ReadingSteps.layers_minus1.Goals as goal

pub returns-clause-goes : goal.returns-clause-goes
returns-clause-goes c = meets_late 6 _ _ c.pass.ensures

pub returns-clause-within : goal.returns-clause-within
returns-clause-within c = passed_within 6 _ _ _ c.pass.ensures
