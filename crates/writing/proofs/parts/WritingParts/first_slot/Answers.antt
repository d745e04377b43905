-- The first slot stands where the record's rest begins.
use Rattle.std.proofs.Common.{refl}
use Rattle.vps_definition.specs.Vps.{slot_at}
use Rattle.writing.proofs.parts.WritingParts.first_slot.Goals as goal

pub returns : goal.returns
unfolding slot_at
returns c = refl
