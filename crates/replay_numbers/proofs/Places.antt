-- Numbers taken from the front are those at places.
use Rattle.std.proofs.Common.{ℕ, ◌+◌, ◌≡◌, List, drop, add-zero, arith, length-drop}
use Rattle.std.proofs.lemmas.List.{get_or-drop}
use Rattle.replay_numbers.specs.Numbers.{number_at, place_behind, place_past_end, place_behind_byte, place_behind_four}

-- The number at a place is the first of what stands from there on, and so is the place behind it.
pub number_at-drop : (x : List ℕ) (at : ℕ) → number_at (drop at x) 0 ≡ number_at x at
number_at-drop x at = simp (get_or-drop, add-zero)

pub place_behind-drop : (x : List ℕ) (at : ℕ) → at + place_behind (drop at x) 0 ≡ place_behind x at
place_behind-drop x at = grind (arith, place_past_end, place_behind_byte, place_behind_four, get_or-drop, length-drop)
