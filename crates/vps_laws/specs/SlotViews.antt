-- The PTL slots by their view: each slot that was read goes from the view's place up to the next one's.
use Rattle.std.specs.Prelude.{ℕ, zero, suc, ◌<◌, ◌≡◌, refl, List, get_or, drop}
use Rattle.std.proofs.Common.{ap, ◌∙◌}
use Rattle.vps_definition.specs.Syntax.{skim}
use Rattle.vps_definition.specs.ProfileTierLevel.{profile_tier_level}
use Rattle.vps_definition.specs.Vps.{slot_at}
use Rattle.vps_definition.specs.Views.{again}
use Rattle.vps_laws.specs.Places.{ReadAt, again_next}

-- behind a slot, by its own first two numbers
abbrev pub behind_slot : List ℕ → List ℕ → List ℕ
behind_slot r y = skim (profile_tier_level (get_or y 0 0) (get_or y 1 0)) r y

pub slot_again : (r x : List ℕ) (i : ℕ) → again (behind_slot r) i x ≡ slot_at i r x
unfolding again slot_at
slot_again r x zero = refl
slot_again r x (suc i) = again_next (behind_slot r) i x ∙ ap (behind_slot r) (slot_again r x i)

-- a PTL section from y up to z: its count, each slot, and the end
pub record SlotsRead (r : List ℕ) (count : ℕ) (y z : List ℕ) : Type 0 where
  pub count_is : get_or y 0 0 ≡ count
  pub slot : (i : ℕ) → i < count
      → ReadAt (profile_tier_level (get_or (slot_at i r (drop 1 y)) 0 0) (get_or (slot_at i r (drop 1 y)) 1 0)) tt (slot_at i r (drop 1 y)) (slot_at (suc i) r (drop 1 y))
  pub ends : slot_at count r (drop 1 y) ≡ z
