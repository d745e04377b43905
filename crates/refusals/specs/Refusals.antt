-- The number of each refusal, and which refusal a number is.
use Rattle.std.specs.Prelude.{ℕ, ◌≤◌, ◌≡◌, ◌≢◌, Result, Ok, Err, MatchResult}
use Rattle.std.proofs.Common.{arith}
use Rattle.refusals.specs.Answer.{Answer}
use Rattle.refusals.specs.Answer.Answer.{success, refusal}
use Rattle.refusals.specs.declared.refusal.Refusal.{Refusal}
use Rattle.refusals.specs.declared.refusal.Refusal.TheVariants.{UnitTooShort, NotAVps, RbspTooLong, WorkTooShort, SublayersReserved, LayerIdsNotRising, NoDirectReference, ModeReserved, NoOutputLayer, PtlsOverSets, PtlMaxTid, PtlAlignment, PtlIndex, CodeTooLong, DpbSlots, DpbMaxTid, DpbBuffering, DpbReorder, DpbDepth, DpbIndex, TimingZero, ScheduleCount, TimingEntries, TimingMaxTid, ElementalDuration, TimingIndex, StopBitMissing, StopBitZero, AlignmentBitOne, RecordTooShort, NotWellFormed, OutputTooShort, ItemMissing, IdZero, CodePastEnd}
use Rattle.refusals.specs.declared.refusal.NoRefusal.{NoRefusal}
use Rattle.refusals.specs.Number as Number

abbrev pub number_of : Refusal → ℕ
number_of UnitTooShort = Number.unit_too_short
number_of NotAVps = Number.not_a_vps
number_of RbspTooLong = Number.rbsp_too_long
number_of WorkTooShort = Number.work_too_short
number_of SublayersReserved = Number.sublayers_reserved
number_of LayerIdsNotRising = Number.layer_ids_not_rising
number_of NoDirectReference = Number.no_direct_reference
number_of ModeReserved = Number.mode_reserved
number_of NoOutputLayer = Number.no_output_layer
number_of PtlsOverSets = Number.ptls_over_sets
number_of PtlMaxTid = Number.ptl_max_tid
number_of PtlAlignment = Number.ptl_alignment
number_of PtlIndex = Number.ptl_index
number_of CodeTooLong = Number.code_too_long
number_of DpbSlots = Number.dpb_slots
number_of DpbMaxTid = Number.dpb_max_tid
number_of DpbBuffering = Number.dpb_buffering
number_of DpbReorder = Number.dpb_reorder
number_of DpbDepth = Number.dpb_depth
number_of DpbIndex = Number.dpb_index
number_of TimingZero = Number.timing_zero
number_of ScheduleCount = Number.schedule_count
number_of TimingEntries = Number.timing_entries
number_of TimingMaxTid = Number.timing_max_tid
number_of ElementalDuration = Number.elemental_duration
number_of TimingIndex = Number.timing_index
number_of StopBitMissing = Number.stop_bit_missing
number_of StopBitZero = Number.stop_bit_zero
number_of AlignmentBitOne = Number.alignment_bit_one
number_of RecordTooShort = Number.record_too_short
number_of NotWellFormed = Number.not_well_formed
number_of OutputTooShort = Number.output_too_short
number_of ItemMissing = Number.item_missing
number_of IdZero = Number.id_zero
number_of CodePastEnd = Number.code_past_end

-- the result is the refusal with this number, or an error with a number that none has
abbrev pub Decodes : ℕ → Result Refusal NoRefusal → Type 0
Decodes number r = MatchResult r (λ refusal. number_of refusal ≡ number) (λ e. (e.0 ≡ number) × ((refusal : Refusal) → number_of refusal ≢ number))

-- what a result says: its values, or its refusal by number
abbrev pub answer_of : {A : Type 0} → Result A Refusal → Answer A
answer_of (Ok x) = success x
answer_of (Err e) = refusal (number_of e)

-- no refusal has the number 0
pub number_some : (refusal : Refusal) → 1 ≤ number_of refusal
number_some UnitTooShort = omega arith
number_some NotAVps = omega arith
number_some RbspTooLong = omega arith
number_some WorkTooShort = omega arith
number_some SublayersReserved = omega arith
number_some LayerIdsNotRising = omega arith
number_some NoDirectReference = omega arith
number_some ModeReserved = omega arith
number_some NoOutputLayer = omega arith
number_some PtlsOverSets = omega arith
number_some PtlMaxTid = omega arith
number_some PtlAlignment = omega arith
number_some PtlIndex = omega arith
number_some CodeTooLong = omega arith
number_some DpbSlots = omega arith
number_some DpbMaxTid = omega arith
number_some DpbBuffering = omega arith
number_some DpbReorder = omega arith
number_some DpbDepth = omega arith
number_some DpbIndex = omega arith
number_some TimingZero = omega arith
number_some ScheduleCount = omega arith
number_some TimingEntries = omega arith
number_some TimingMaxTid = omega arith
number_some ElementalDuration = omega arith
number_some TimingIndex = omega arith
number_some StopBitMissing = omega arith
number_some StopBitZero = omega arith
number_some AlignmentBitOne = omega arith
number_some RecordTooShort = omega arith
number_some NotWellFormed = omega arith
number_some OutputTooShort = omega arith
number_some ItemMissing = omega arith
number_some IdZero = omega arith
number_some CodePastEnd = omega arith
