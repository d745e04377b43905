-- The number is stored.
use Rattle.std.proofs.Common.{rules}
use Rattle.vps_definition.specs.Words.{inferred}
use Rattle.vps_laws.specs.Inversion.Reads.{read_keep, read_done}
use Rattle.reading.specs.Steps.{meets_shut, meets_number, room_inferred}
use Rattle.reading.proofs.ReadingSteps.infer.Goals as goal

pub returns-in_err-reach-clause-goes : goal.returns-in_err-reach-clause-goes
returns-in_err-reach-clause-goes c = search (rules, meets_shut, room_inferred)

pub returns-clause-goes : goal.returns-clause-goes
unfolding inferred
returns-clause-goes c = meets_number (read_keep read_done) c.push.ensures
