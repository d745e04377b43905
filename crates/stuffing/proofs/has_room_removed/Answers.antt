-- `has_room_removed` meets its contract: removing never lengthens, so the length need not be known where the payload itself has room.
use Rattle.std.proofs.Common.{◌∙◌, le-leb}
use Rattle.stuffing.proofs.Steps.{room_removed}
use Rattle.stuffing.proofs.has_room_removed.Goals as goal

pub returns-then-ebsp-out : goal.returns-then-ebsp-out
returns-then-ebsp-out c = le-leb _ _ c.if-ebsp-out.true ∙ room_removed _ c.if-ebsp-out.true
