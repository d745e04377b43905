-- `has_room_added` meets its contract: adding never shortens, and lengthens by at most one half.
use Rattle.stuffing.proofs.Steps.{no_room_added, room_added}
use Rattle.stuffing.proofs.has_room_added.Goals as goal

pub returns-then-out-rbsp : goal.returns-then-out-rbsp
returns-then-out-rbsp c = no_room_added _ c.if-out-rbsp.true

pub returns-then-rbsp-out : goal.returns-then-rbsp-out
returns-then-rbsp-out c = room_added _ c.if-out-rbsp.false c.if-rbsp-out.true
