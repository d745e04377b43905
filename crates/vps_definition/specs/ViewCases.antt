-- Worked views of two records. Both have three layers, of which the third refers to the second and that to the first. The first has
-- two timing entries of two sublayers and one, each sublayer with two NAL and two VCL schedules; the second has rows of output layers.
use Rattle.std.specs.Prelude.{ℕ, ◌≡◌, refl, List, [], ◌∷◌, true, false, get_or, take}
use Rattle.vps_definition.specs.OutputLayerSets.{total_num_olss, num_multi_layer_olss, set_mask}
use Rattle.vps_definition.specs.OutputLayerSets.Sets.{up_to, chosen}
use Rattle.vps_definition.specs.Writing.{well_formed}
use Rattle.vps_definition.specs.Layout.{from_section, set_count, multi_count, timing_count, timing_indices, extension_in}
use Rattle.vps_definition.specs.Views.{refs_of, sets_of, layer_in_set, slot_of, bit_rate_scale, timing_entry, sublayer_count, sublayer_at, nal_schedule_at, vcl_schedule_at}
use Rattle.vps_definition.specs.Open.{opened}
use Rattle.vps_definition.specs.Cases.{record_u}

pub example : List ℕ
example = 3 ∷ 1 ∷ 1 ∷ 0 ∷ 0 ∷ 0 ∷ 0 ∷ 0 ∷ 0 ∷ 5 ∷ 1 ∷ 0 ∷ 6 ∷ 0 ∷ 0 ∷ 1 ∷ 2 ∷ 9 ∷ 0 ∷ 1 ∷ 0 ∷ 2 ∷ 1 ∷ 1 ∷ 0 ∷ 1 ∷ 1 ∷ 1 ∷ 1 ∷ 0 ∷ 51 ∷ 0 ∷ 1 ∷ 0 ∷ 0 ∷ 0 ∷ 0 ∷ 3 ∷ 0 ∷ 0 ∷ 0 ∷ 1 ∷ 1 ∷ 4 ∷ 2 ∷ 0 ∷ 2 ∷ 1920 ∷ 1080 ∷ 1 ∷ 2 ∷ 0 ∷ 1920 ∷ 1080 ∷ 1 ∷ 2 ∷ 0 ∷ 1 ∷ 1001 ∷ 60000 ∷ 1 ∷ 1 ∷ 0 ∷ 1 ∷ 0 ∷ 2 ∷ 3 ∷ 0 ∷ 1 ∷ 1 ∷ 2 ∷ 1 ∷ 0 ∷ 1 ∷ 7 ∷ 0 ∷ 100 ∷ 101 ∷ 102 ∷ 103 ∷ 1 ∷ 110 ∷ 111 ∷ 112 ∷ 113 ∷ 1 ∷ 120 ∷ 121 ∷ 122 ∷ 123 ∷ 1 ∷ 130 ∷ 131 ∷ 132 ∷ 133 ∷ 1 ∷ 0 ∷ 1 ∷ 8 ∷ 0 ∷ 200 ∷ 201 ∷ 202 ∷ 203 ∷ 1 ∷ 210 ∷ 211 ∷ 212 ∷ 213 ∷ 1 ∷ 220 ∷ 221 ∷ 222 ∷ 223 ∷ 1 ∷ 230 ∷ 231 ∷ 232 ∷ 233 ∷ 1 ∷ 0 ∷ 0 ∷ 1 ∷ 9 ∷ 0 ∷ 300 ∷ 301 ∷ 302 ∷ 303 ∷ 1 ∷ 310 ∷ 311 ∷ 312 ∷ 313 ∷ 1 ∷ 320 ∷ 321 ∷ 322 ∷ 323 ∷ 1 ∷ 330 ∷ 331 ∷ 332 ∷ 333 ∷ 1 ∷ 0 ∷ 1 ∷ 0 ∷ 9 ∷ 24 ∷ 25 ∷ 37 ∷ 41 ∷ 57 ∷ 147 ∷ 156 ∷ []

pub is_well_formed : well_formed example ≡ true
unfolding opened example
is_well_formed = refl

pub references : refs_of example ≡ [] ∷ (1 ∷ []) ∷ (0 ∷ 1 ∷ []) ∷ []
unfolding opened example
references = refl

pub sets : sets_of example ≡ up_to
unfolding opened example
sets = refl

-- set 1 has layers 0 and 1
pub layers : (layer_in_set example 1 0 ≡ true) × (layer_in_set example 1 1 ≡ true) × (layer_in_set example 1 2 ≡ false)
unfolding opened example
layers = (refl, refl, refl)

-- as masks, layer 0 the lowest bit
pub masks : (set_mask 3 (refs_of example) (sets_of example) 0 ≡ 1) × (set_mask 3 (refs_of example) (sets_of example) 1 ≡ 3) × (set_mask 3 (refs_of example) (sets_of example) 2 ≡ 7)
unfolding opened example
masks = (refl, refl, refl)

pub counts : (total_num_olss 3 (sets_of example) ≡ set_count example) × (num_multi_layer_olss 3 (refs_of example) (sets_of example) ≡ multi_count example)
unfolding opened example
counts = (refl, refl)

-- the only PTL slot, and behind it the OLS section
pub slots : (take 5 (slot_of example 0) ≡ 1 ∷ 1 ∷ 1 ∷ 0 ∷ 51 ∷ []) × (slot_of example 1 ≡ from_section example 4)
unfolding opened example
slots = (refl, refl)

-- entry 0 has two sublayers, entry 1 one; the elemental durations
pub sublayers : (sublayer_count example 0 ≡ 2) × (sublayer_count example 1 ≡ 1) × (get_or (sublayer_at example 0 0) 2 0 ≡ 7) × (get_or (sublayer_at example 0 1) 2 0 ≡ 8) × (get_or (sublayer_at example 1 0) 2 0 ≡ 9)
unfolding opened example
sublayers = (refl, refl, refl, refl, refl)

-- NAL schedule 1 of entry 0's sublayer 1, and VCL schedule 1 of entry 1's sublayer 0
pub schedules : (take 5 (nal_schedule_at example 0 1 1) ≡ 210 ∷ 211 ∷ 212 ∷ 213 ∷ 1 ∷ []) × (take 5 (vcl_schedule_at example 1 0 1) ≡ 330 ∷ 331 ∷ 332 ∷ 333 ∷ 1 ∷ [])
unfolding opened example
schedules = (refl, refl)

pub scale : bit_rate_scale example ≡ 2
unfolding opened example
scale = refl

-- behind the last entry the indices
pub indices : take 2 (timing_entry example (timing_count example)) ≡ timing_indices example
unfolding opened example
indices = refl

-- the extension bits of U's record with 1 0, and of the record above, which has none
pub extension : (extension_in (record_u 1 (2 ∷ 1 ∷ 0 ∷ []) 40) ≡ 1 ∷ 0 ∷ []) × (extension_in example ≡ [])
unfolding opened example record_u
extension = (refl, refl)

-- ── Rows ──────────────────────────────────────────────────────────────
-- row 0 has layer 2 as output layer, row 1 layer 0
pub rows_example : List ℕ
rows_example = 3 ∷ 1 ∷ 1 ∷ 0 ∷ 0 ∷ 0 ∷ 2 ∷ 0 ∷ 0 ∷ 5 ∷ 1 ∷ 0 ∷ 6 ∷ 0 ∷ 0 ∷ 1 ∷ 2 ∷ 9 ∷ 0 ∷ 1 ∷ 0 ∷ 2 ∷ 1 ∷ 1 ∷ 2 ∷ 0 ∷ 0 ∷ 1 ∷ 1 ∷ 0 ∷ 0 ∷ 1 ∷ 1 ∷ 1 ∷ 1 ∷ 0 ∷ 51 ∷ 0 ∷ 1 ∷ 0 ∷ 0 ∷ 0 ∷ 0 ∷ 3 ∷ 0 ∷ 0 ∷ 0 ∷ 1 ∷ 1 ∷ 4 ∷ 2 ∷ 0 ∷ 1 ∷ 1920 ∷ 1080 ∷ 1 ∷ 2 ∷ 0 ∷ 0 ∷ 0 ∷ 9 ∷ 24 ∷ 31 ∷ 43 ∷ 47 ∷ 58 ∷ 59 ∷ 68 ∷ []

pub rows_well_formed : well_formed rows_example ≡ true
unfolding opened rows_example
rows_well_formed = refl

pub rows : sets_of rows_example ≡ chosen ((0 ∷ 0 ∷ 1 ∷ []) ∷ (1 ∷ 0 ∷ 0 ∷ []) ∷ [])
unfolding opened rows_example
rows = refl

-- set 0 is layer 0; set 1 has layer 2, layer 1 to which that refers, and layer 0 two steps away; set 2 is layer 0 again
pub row_masks : (set_mask 3 (refs_of rows_example) (sets_of rows_example) 0 ≡ 1) × (set_mask 3 (refs_of rows_example) (sets_of rows_example) 1 ≡ 7) × (set_mask 3 (refs_of rows_example) (sets_of rows_example) 2 ≡ 1)
unfolding opened rows_example
row_masks = (refl, refl, refl)
