-- Link figures: bit rates, buffer sizes and picture intervals by the formulas of H.266, and those of a record's timing section.
use Rattle.std.specs.Prelude.{ℕ, ◌+◌, ◌*◌, ◌/◌, ◌^◌, List, cond, eqb, get_or, Option, Some, None}
use Rattle.refusals.specs.Answer.{Answer}
use Rattle.refusals.specs.Answer.Answer.{success, refusal}
use Rattle.vps_definition.specs.Views.{units_in_tick, time_scale, bit_rate_scale, cpb_size_scale, sublayer_at}
use Rattle.record_timing.specs.declared.schedule.Kind.{Kind}
use Rattle.record_timing.specs.declared.schedule.Schedule.{Schedule}
use Rattle.record_timing.specs.declared.sublayer.Sublayer.{Sublayer}
use Rattle.record_timing.specs.Timing.{schedule_at, has_sublayer, has_schedule, lacks}

-- ── Formulas ──────────────────────────────────────────────────────────
-- BitRate, in bit/s
unfoldable pub bit_rate_of : (bit_rate_value_minus1 bit_rate_scale : ℕ) → ℕ
bit_rate_of bit_rate_value_minus1 bit_rate_scale = (bit_rate_value_minus1 + 1) * 2 ^ (6 + bit_rate_scale)

-- CpbSize, in bits
unfoldable pub cpb_size_of : (cpb_size_value_minus1 cpb_size_scale : ℕ) → ℕ
cpb_size_of cpb_size_value_minus1 cpb_size_scale = (cpb_size_value_minus1 + 1) * 2 ^ (4 + cpb_size_scale)

-- so many clock ticks, of num_units_in_tick / time_scale seconds each, in microseconds
unfoldable pub microseconds_of : (elemental_duration_in_tc_minus1 num_units_in_tick : ℕ) → ℕ
microseconds_of elemental_duration_in_tc_minus1 num_units_in_tick = (elemental_duration_in_tc_minus1 + 1) * num_units_in_tick * 1000000

-- rounded down
unfoldable pub interval_of : (elemental_duration_in_tc_minus1 num_units_in_tick time_scale : ℕ) → ℕ
interval_of elemental_duration_in_tc_minus1 num_units_in_tick time_scale = microseconds_of elemental_duration_in_tc_minus1 num_units_in_tick / time_scale

-- ── Of a record's numbers ─────────────────────────────────────────────
-- a schedule begins with bit_rate_value_minus1 and cpb_size_value_minus1
unfoldable pub rate_at : List ℕ → (entry sublayer : ℕ) → Kind → (schedule : ℕ) → ℕ
rate_at r e j kind c = bit_rate_of (get_or (schedule_at r e j kind c) 0 0) (bit_rate_scale r)

unfoldable pub size_at : List ℕ → (entry sublayer : ℕ) → Kind → (schedule : ℕ) → ℕ
size_at r e j kind c = cpb_size_of (get_or (schedule_at r e j kind c) 1 0) (cpb_size_scale r)

-- a sublayer has fixed_pic_rate_within_cvs_flag as its second number, and elemental_duration_in_tc_minus1 as its third
unfoldable pub interval_at : List ℕ → (entry sublayer : ℕ) → Option ℕ
interval_at r e j = cond (eqb (get_or (sublayer_at r e j) 1 0) 1) (Some (interval_of (get_or (sublayer_at r e j) 2 0) (units_in_tick r) (time_scale r))) None

-- ── Of what code has found ────────────────────────────────────────────
abbrev pub rate_in : Schedule → ℕ
rate_in s = rate_at s.sublayer.entry.timing.«record».now s.sublayer.entry.index s.sublayer.index s.kind s.index

abbrev pub size_in : Schedule → ℕ
size_in s = size_at s.sublayer.entry.timing.«record».now s.sublayer.entry.index s.sublayer.index s.kind s.index

abbrev pub interval_in : Sublayer → Option ℕ
interval_in s = interval_at s.entry.timing.«record».now s.entry.index s.index

-- ── Answers ───────────────────────────────────────────────────────────
unfoldable pub bit_rate : List ℕ → (entry sublayer : ℕ) → Kind → (schedule : ℕ) → Answer ℕ
bit_rate r e j kind c = cond (has_schedule r e j kind c) (success (rate_at r e j kind c)) (refusal (lacks r))

unfoldable pub buffer_size : List ℕ → (entry sublayer : ℕ) → Kind → (schedule : ℕ) → Answer ℕ
buffer_size r e j kind c = cond (has_schedule r e j kind c) (success (size_at r e j kind c)) (refusal (lacks r))

-- an interval that is missing is an answer, too
unfoldable pub picture_interval : List ℕ → (entry sublayer : ℕ) → Answer (Option ℕ)
picture_interval r e j = cond (has_sublayer r e j) (success (interval_at r e j)) (refusal (lacks r))
