-- `rbsp_to_ebsp` meets its contract: what has room is stored at once.
use Rattle.std.proofs.Common.{refl, sym, ◌∙◌}
use Rattle.stuffing.proofs.Steps.{lends_done, left_done, lends_refused, left_refused}
use Rattle.stuffing.proofs.rbsp_to_ebsp.Goals as goal

pub returns-then-has_room_added : goal.returns-then-has_room_added
returns-then-has_room_added c = let room = sym c.has_room_added.ensures ∙ c.if-has_room_added.true in
    record { answered = lends_done _ _ room c.add.ensures.counted; left = left_done _ _ room (c.add.ensures.stored refl) }

pub returns-else-has_room_added : goal.returns-else-has_room_added
returns-else-has_room_added c = let none = sym c.has_room_added.ensures ∙ c.if-has_room_added.false in
    record { answered = lends_refused _ _ none; left = left_refused _ _ none }
