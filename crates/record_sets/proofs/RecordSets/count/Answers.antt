-- The OLS section begins with how many sets there are.
use Rattle.record_sets.specs.Sets.{count_read}
use Rattle.record_sets.proofs.RecordSets.count.Goals as goal

pub returns : goal.returns
returns c = count_read _ c.args.self.now.masked.formed c.start_of-start.ensures c.number_at.ensures
