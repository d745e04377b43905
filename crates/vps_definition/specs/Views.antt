-- Views of a record: what its tables ended in, and where the numbers of its timing section stand, from its own numbers alone.
use Rattle.std.specs.Prelude.{ℕ, zero, suc, ◌+◌, ◌*◌, List, [], Bool, cond, eqb, get_or, drop}
use Rattle.vps_definition.specs.Syntax.{look}
use Rattle.vps_definition.specs.OutputLayerSets.{Sets, in_set}
use Rattle.vps_definition.specs.OutputLayerSets.Sets.{each_layer}
use Rattle.vps_definition.specs.DpbParameters.{sublayers}
use Rattle.vps_definition.specs.TimingHrd.{Hrd, general_timing_hrd}
use Rattle.vps_definition.specs.Vps.{Header, Layers, SetsRead, layers_section, sets_section, slot_at}
use Rattle.vps_definition.specs.Layout.{from_section}

-- ── What the tables ended in ──────────────────────────────────────────
-- what a list that no table runs through gives
abbrev pub no_layers : Layers
no_layers = record { least = 0; refs = [] }

abbrev pub no_sets : SetsRead
no_sets = record { each_layer_flag = 0; mode_idc = 0; sets = each_layer }

-- the header's numbers all stand in the General section, whatever the rules are
unfoldable pub header_of : List ℕ → Header
header_of r = record {
  id = get_or r 1 0;
  layers = get_or r 0 0;
  max_sublayers_minus1 = get_or r 2 0;
  default_max_tid_flag = get_or r 3 0;
  all_independent_flag = get_or r 4 0;
}

unfoldable pub layers_of : List ℕ → Layers
layers_of r = look no_layers (layers_section (header_of r)) r (from_section r 1)

unfoldable pub sets_read_of : List ℕ → SetsRead
sets_read_of r = look no_sets (sets_section (header_of r)) r (from_section r 2)

-- each layer's direct reference flags, and how the sets are given
unfoldable pub refs_of : List ℕ → List (List ℕ)
refs_of r = (layers_of r).refs

unfoldable pub sets_of : List ℕ → Sets
sets_of r = (sets_read_of r).sets

-- layer j is in set i of the record
unfoldable pub layer_in_set : List ℕ → ℕ → ℕ → Bool
layer_in_set r i j = in_set (get_or r 0 0) (refs_of r) (sets_of r) i j

-- ── Profile, tier, level ──────────────────────────────────────────────
-- the record from PTL slot i on; behind the last slot, from the OLS section on
unfoldable pub slot_of : List ℕ → ℕ → List ℕ
slot_of r i = slot_at i r (drop 1 (from_section r 3))

-- ── Timing ────────────────────────────────────────────────────────────
-- the timing section behind its flag: eleven general numbers, the sublayer flag, the count, and the entries
unfoldable pub timing_numbers : List ℕ → List ℕ
timing_numbers r = drop 1 (from_section r 6)

abbrev pub no_hrd : Hrd
no_hrd = record { nal = 0; vcl = 0; du = 0; cpb_cnt_minus1 = 0 }

unfoldable pub hrd_of : List ℕ → Hrd
hrd_of r = look no_hrd general_timing_hrd r (timing_numbers r)

abbrev pub units_in_tick : List ℕ → ℕ
units_in_tick r = get_or (timing_numbers r) 0 0

abbrev pub time_scale : List ℕ → ℕ
time_scale r = get_or (timing_numbers r) 1 0

abbrev pub bit_rate_scale : List ℕ → ℕ
bit_rate_scale r = get_or (timing_numbers r) 7 0

abbrev pub cpb_size_scale : List ℕ → ℕ
cpb_size_scale r = get_or (timing_numbers r) 8 0

abbrev pub timing_sublayer_flag : List ℕ → ℕ
timing_sublayer_flag r = get_or (timing_numbers r) 11 0

-- a schedule is rate, size, two DU numbers under the DU flag, and cbr
unfoldable pub schedule_length : Hrd → ℕ
schedule_length h = 3 + cond (eqb h.du 0) 0 2

-- the schedules under a flag
unfoldable pub schedules_length : Hrd → (flag : ℕ) → ℕ
schedules_length h flag = cond (eqb flag 0) 0 ((h.cpb_cnt_minus1 + 1) * schedule_length h)

-- a sublayer is four numbers, and the NAL and the VCL schedules
unfoldable pub sublayer_length : Hrd → ℕ
sublayer_length h = 4 + (schedules_length h h.nal + schedules_length h h.vcl)

-- behind an entry: a max tid and its sublayers
unfoldable pub behind_entry : Hrd → (flag : ℕ) → List ℕ → List ℕ
behind_entry h flag x = drop (1 + sublayers flag (get_or x 0 0) * sublayer_length h) x

-- n steps, one after the other
unfoldable pub again : (List ℕ → List ℕ) → ℕ → List ℕ → List ℕ
again step zero x = x
again step (suc n) x = again step n (step x)

-- the record from timing entry e on; behind the last entry, from the timing indices on
unfoldable pub timing_entry : List ℕ → ℕ → List ℕ
timing_entry r e = again (behind_entry (hrd_of r) (timing_sublayer_flag r)) e (drop 13 (timing_numbers r))

-- how many sublayers entry e has, and the record from its sublayer j on
unfoldable pub sublayer_count : List ℕ → ℕ → ℕ
sublayer_count r e = sublayers (timing_sublayer_flag r) (get_or (timing_entry r e) 0 0)

unfoldable pub sublayer_at : List ℕ → ℕ → ℕ → List ℕ
sublayer_at r e j = drop (1 + j * sublayer_length (hrd_of r)) (timing_entry r e)

-- the record from schedule c of a sublayer on, NAL or VCL
unfoldable pub nal_schedule_at : List ℕ → ℕ → ℕ → ℕ → List ℕ
nal_schedule_at r e j c = drop (4 + c * schedule_length (hrd_of r)) (sublayer_at r e j)

unfoldable pub vcl_schedule_at : List ℕ → ℕ → ℕ → ℕ → List ℕ
vcl_schedule_at r e j c = drop (4 + schedules_length (hrd_of r) (hrd_of r).nal + c * schedule_length (hrd_of r)) (sublayer_at r e j)
