-- Worked cases of what puts nothing, each by the law for it.
use Rattle.std.specs.Prelude.{refl, [], ◌∷◌}
use Rattle.std.proofs.Common.{arith}
use Rattle.texts.specs.Text.{Puts, puts_no_room}

-- no bytes, with room for two
pub none_before_the_end : Puts [] 1 1 (7 ∷ 8 ∷ 9 ∷ []) (7 ∷ 8 ∷ 9 ∷ [])
none_before_the_end = puts_no_room [] {at = 1} {n = 0} {room = 2} {text = 7 ∷ 8 ∷ 9 ∷ []} refl refl (omega arith)

-- no bytes into no slice
pub none_into_none : Puts [] 0 0 [] []
none_into_none = puts_no_room [] {at = 0} {n = 0} {room = 0} {text = []} refl refl (omega arith)

-- two bytes at the end, and past it
pub two_at_the_end : Puts (5 ∷ 6 ∷ []) 3 3 (7 ∷ 8 ∷ 9 ∷ []) (7 ∷ 8 ∷ 9 ∷ [])
two_at_the_end = puts_no_room (5 ∷ 6 ∷ []) {at = 3} {n = 0} {room = 0} {text = 7 ∷ 8 ∷ 9 ∷ []} refl refl (omega arith)

pub two_past_the_end : Puts (5 ∷ 6 ∷ []) 5 5 (7 ∷ 8 ∷ 9 ∷ []) (7 ∷ 8 ∷ 9 ∷ [])
two_past_the_end = puts_no_room (5 ∷ 6 ∷ []) {at = 5} {n = 0} {room = 0} {text = 7 ∷ 8 ∷ 9 ∷ []} refl refl (omega arith)
