-- Worked units by a rule and by the same rules without it: what the rule refuses, and before which other refusal.
use Rattle.std.specs.Prelude.{ℕ, ◌≡◌, refl, List, [], ◌∷◌}
use Rattle.refusals.specs.Answer.Answer.{success, refusal}
use Rattle.vps_definition.specs.Rules.{today, taking_id, early}
use Rattle.vps_definition.specs.Reading.{read_unit_under, read_unit}
use Rattle.vps_definition.specs.Reading.Reading.{accepts, refuses}
use Rattle.vps_definition.specs.Writing.{write_record_under, write_record}
use Rattle.vps_definition.specs.Open.{opened}

-- ── Id 0 ──────────────────────────────────────────────────────────────
-- no bytes behind the header: every field is 0. It is P13, and was refused where the end is missed
pub id_zero : (read_unit (0 ∷ 0x71 ∷ []) ≡ refuses 34) × (read_unit_under (taking_id today) (0 ∷ 0x71 ∷ []) ≡ refuses 27)
unfolding opened
id_zero = (refl, refl)

-- with reserved sublayers, of id 0 and of id 1
pub id_before_sublayers : (read_unit (0 ∷ 0x71 ∷ 0 ∷ 0x38 ∷ []) ≡ refuses 34) × (read_unit_under (taking_id today) (0 ∷ 0x71 ∷ 0 ∷ 0x38 ∷ []) ≡ refuses 5)
    × (read_unit (0 ∷ 0x71 ∷ 0x10 ∷ 0x38 ∷ []) ≡ refuses 5)
unfolding opened
id_before_sublayers = (refl, refl, refl)

-- U with id 0, and its record
unfoldable pub u_with_id_zero : List ℕ
u_with_id_zero = 1 ∷ 0 ∷ 0 ∷ 1 ∷ 1 ∷ 1 ∷ 2 ∷ 0 ∷ 0 ∷ 0 ∷ 1 ∷ 0 ∷ 0 ∷ 1 ∷ 1 ∷ 0 ∷ 1 ∷ 0 ∷ 51 ∷ 0 ∷ 0 ∷ 0 ∷ 0 ∷ 0 ∷ 1 ∷ 0 ∷ 0 ∷ 0 ∷ 0 ∷ 0 ∷ 9 ∷ 12 ∷ 13 ∷ 24 ∷ 26 ∷ 28 ∷ 29 ∷ 38 ∷ []

pub id_of_a_whole_unit : (read_unit (0 ∷ 0x71 ∷ 0 ∷ 0 ∷ 3 ∷ 0 ∷ 2 ∷ 0x33 ∷ 0 ∷ 0 ∷ 0x40 ∷ []) ≡ refuses 34)
    × (read_unit_under (taking_id today) (0 ∷ 0x71 ∷ 0 ∷ 0 ∷ 3 ∷ 0 ∷ 2 ∷ 0x33 ∷ 0 ∷ 0 ∷ 0x40 ∷ []) ≡ accepts u_with_id_zero 64)
unfolding opened u_with_id_zero
id_of_a_whole_unit = (refl, refl)

pub id_of_a_whole_record : (write_record u_with_id_zero ≡ refusal 31) × (write_record_under (taking_id today) u_with_id_zero ≡ success (0 ∷ 0x71 ∷ 0 ∷ 0 ∷ 3 ∷ 0 ∷ 2 ∷ 0x33 ∷ 0 ∷ 0 ∷ 0x40 ∷ []))
unfolding opened u_with_id_zero
id_of_a_whole_record = (refl, refl)

-- ── No set of several layers ──────────────────────────────────────────
-- a row of layer 0 alone, and more PTLs than sets
pub slots_before_ptls : (read_unit_under (early today) (0 ∷ 0x71 ∷ 0x10 ∷ 0x80 ∷ 0 ∷ 0x48 ∷ 0x43 ∷ 0 ∷ 0x4f ∷ 0 ∷ 2 ∷ 0x33 ∷ 0 ∷ 0 ∷ 0x80 ∷ []) ≡ refuses 15)
    × (read_unit (0 ∷ 0x71 ∷ 0x10 ∷ 0x80 ∷ 0 ∷ 0x48 ∷ 0x43 ∷ 0 ∷ 0x4f ∷ 0 ∷ 2 ∷ 0x33 ∷ 0 ∷ 0 ∷ 0x80 ∷ []) ≡ refuses 10)
unfolding opened
slots_before_ptls = (refl, refl)

-- a row of layers 0 and 1, and more PTLs than sets
pub some_slots : read_unit_under (early today) (0 ∷ 0x71 ∷ 0x10 ∷ 0x80 ∷ 0 ∷ 0x48 ∷ 0x43 ∷ 0 ∷ 0x67 ∷ 0xc0 ∷ 2 ∷ 0x33 ∷ 0 ∷ 0 ∷ 0x80 ∷ []) ≡ refuses 10
unfolding opened
some_slots = refl

-- one layer, which is a set: the unit is read as today
pub each_layer_has_slots : read_unit_under (early today) (0 ∷ 0x71 ∷ 0x10 ∷ 0 ∷ 0 ∷ 3 ∷ 2 ∷ 0x33 ∷ 0 ∷ 0 ∷ 0x40 ∷ []) ≡ read_unit (0 ∷ 0x71 ∷ 0x10 ∷ 0 ∷ 0 ∷ 3 ∷ 2 ∷ 0x33 ∷ 0 ∷ 0 ∷ 0x40 ∷ [])
unfolding opened
each_layer_has_slots = refl
