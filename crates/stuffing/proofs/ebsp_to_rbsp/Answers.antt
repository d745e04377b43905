-- `ebsp_to_rbsp` meets its contract: what has room is stored at once.
use Rattle.std.proofs.Common.{sym, ◌∙◌}
use Rattle.stuffing.proofs.Steps.{lends_done, left_done, lends_refused, left_refused}
use Rattle.stuffing.proofs.ebsp_to_rbsp.Goals as goal

pub returns-then-has_room_removed : goal.returns-then-has_room_removed
returns-then-has_room_removed c = let room = sym c.has_room_removed.ensures ∙ c.if-has_room_removed.true in
    record { answered = lends_done _ _ room c.remove.ensures.counted; left = left_done _ _ room (c.remove.ensures.stored) }

pub returns-else-has_room_removed : goal.returns-else-has_room_removed
returns-else-has_room_removed c = let none = sym c.has_room_removed.ensures ∙ c.if-has_room_removed.false in
    record { answered = lends_refused _ _ none; left = left_refused _ _ none }
