-- The numbers of the refusals, each with the condition that it names: `src/refusal.rt` has the same for the code, and `Refusals` holds the two together.
use Rattle.std.specs.Prelude.{ℕ}

-- header: under 2 bytes
abbrev pub unit_too_short : ℕ
unit_too_short = 1

-- header: the type in the second byte, bits 3 to 7, is not 14
abbrev pub not_a_vps : ℕ
not_a_vps = 2

-- lengths: RBSP over 65,535 bytes
abbrev pub rbsp_too_long : ℕ
rbsp_too_long = 3

-- lengths: work buffer shorter than the RBSP
abbrev pub work_too_short : ℕ
work_too_short = 4

-- layers: max_sublayers_minus1 is 7
abbrev pub sublayers_reserved : ℕ
sublayers_reserved = 5

-- layers: ids not strictly rising
abbrev pub layer_ids_not_rising : ℕ
layer_ids_not_rising = 6

-- layers: dependent layer without direct reference
abbrev pub no_direct_reference : ℕ
no_direct_reference = 7

-- sets: mode 3
abbrev pub mode_reserved : ℕ
mode_reserved = 8

-- sets: row without output layer
abbrev pub no_output_layer : ℕ
no_output_layer = 9

-- sets: more PTLs than sets
abbrev pub ptls_over_sets : ℕ
ptls_over_sets = 10

-- PTL: max tid over max_sublayers_minus1
abbrev pub ptl_max_tid : ℕ
ptl_max_tid = 11

-- PTL: alignment bit 1 before the first PTL
abbrev pub ptl_alignment : ℕ
ptl_alignment = 12

-- PTL: index not below the PTL count
abbrev pub ptl_index : ℕ
ptl_index = 13

-- each ue: 32 zeros
abbrev pub code_too_long : ℕ
code_too_long = 14

-- DPB: slots over the multi-layer sets
abbrev pub dpb_slots : ℕ
dpb_slots = 15

-- DPB: max tid over max_sublayers_minus1
abbrev pub dpb_max_tid : ℕ
dpb_max_tid = 16

-- DPB: buffering over 15
abbrev pub dpb_buffering : ℕ
dpb_buffering = 17

-- DPB: reorder over buffering
abbrev pub dpb_reorder : ℕ
dpb_reorder = 18

-- DPB: depth over 8
abbrev pub dpb_depth : ℕ
dpb_depth = 19

-- DPB: index not below the slots
abbrev pub dpb_index : ℕ
dpb_index = 20

-- timing: units or scale 0, after both HRD flags
abbrev pub timing_zero : ℕ
timing_zero = 21

-- timing: schedule count field over 31
abbrev pub schedule_count : ℕ
schedule_count = 22

-- timing: entries over the multi-layer sets
abbrev pub timing_entries : ℕ
timing_entries = 23

-- timing: max tid over max_sublayers_minus1
abbrev pub timing_max_tid : ℕ
timing_max_tid = 24

-- timing: elemental duration over 2,047
abbrev pub elemental_duration : ℕ
elemental_duration = 25

-- timing: index not below the entries
abbrev pub timing_index : ℕ
timing_index = 26

-- end: no bit left for the stop bit
abbrev pub stop_bit_missing : ℕ
stop_bit_missing = 27

-- end: stop bit 0
abbrev pub stop_bit_zero : ℕ
stop_bit_zero = 28

-- end: a 1 between stop bit and boundary
abbrev pub alignment_bit_one : ℕ
alignment_bit_one = 29

-- record: record buffer too short; the needed length is returned
abbrev pub record_too_short : ℕ
record_too_short = 30

-- writer, and all that answers from a record: not well formed; bit steps: a width over 32, a value that its code can't hold, a place from 2^63 on
abbrev pub not_well_formed : ℕ
not_well_formed = 31

-- all that stores into an output: output too short
abbrev pub output_too_short : ℕ
output_too_short = 32

-- rates, intervals: no timing section in the record, or no such entry, sublayer or schedule
abbrev pub item_missing : ℕ
item_missing = 33

-- layers: vps_video_parameter_set_id 0, directly before 5
abbrev pub id_zero : ℕ
id_zero = 34

-- each ue: its last bit lies past the end, and no 32 zeros stand before it; before the limits of its value
abbrev pub code_past_end : ℕ
code_past_end = 35
