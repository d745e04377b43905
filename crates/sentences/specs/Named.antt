-- Each refusal's number is in the table, and each number of the table is a refusal's.
use Rattle.std.specs.Prelude.{ℕ, zero, suc, ◌≤◌, ◌≡◌, ◌≢◌, refl, List, [], ◌∷◌, Bool, true, eqb, get_or, Option, Some, None, Result, Ok, Err}
use Rattle.std.proofs.Common.{arith, eqb-true}
use Rattle.lists.specs.Table.{every_below, every_below_lem}
use Rattle.std.specs.Result.{result_ok}
use Rattle.refusals.specs.Refusals.{number_of, number_some, Decodes}
use Rattle.refusals.specs.declared.refusal.NoRefusal.{NoRefusal}
use Rattle.refusals.specs.declared.refusal.Refusal.{Refusal}
use Rattle.refusals.specs.declared.refusal.Refusal.TheVariants.{UnitTooShort, NotAVps, RbspTooLong, WorkTooShort, SublayersReserved, LayerIdsNotRising, NoDirectReference, ModeReserved, NoOutputLayer, PtlsOverSets, PtlMaxTid, PtlAlignment, PtlIndex, CodeTooLong, DpbSlots, DpbMaxTid, DpbBuffering, DpbReorder, DpbDepth, DpbIndex, TimingZero, ScheduleCount, TimingEntries, TimingMaxTid, ElementalDuration, TimingIndex, StopBitMissing, StopBitZero, AlignmentBitOne, RecordTooShort, NotWellFormed, OutputTooShort, ItemMissing, IdZero, CodePastEnd}
use Rattle.sentences.specs.Sentences.{table, last_number, sentence_of}
use Rattle.sentences.specs.Laws.{InTable, no_words, nothing_said}

-- the number of a refusal that was found; 0 where none was
abbrev pub found_number : Option Refusal → ℕ
found_number None = 0
found_number (Some refusal) = number_of refusal

pub number_most : (refusal : Refusal) → number_of refusal ≤ last_number
unfolding last_number table
number_most UnitTooShort = omega arith
number_most NotAVps = omega arith
number_most RbspTooLong = omega arith
number_most WorkTooShort = omega arith
number_most SublayersReserved = omega arith
number_most LayerIdsNotRising = omega arith
number_most NoDirectReference = omega arith
number_most ModeReserved = omega arith
number_most NoOutputLayer = omega arith
number_most PtlsOverSets = omega arith
number_most PtlMaxTid = omega arith
number_most PtlAlignment = omega arith
number_most PtlIndex = omega arith
number_most CodeTooLong = omega arith
number_most DpbSlots = omega arith
number_most DpbMaxTid = omega arith
number_most DpbBuffering = omega arith
number_most DpbReorder = omega arith
number_most DpbDepth = omega arith
number_most DpbIndex = omega arith
number_most TimingZero = omega arith
number_most ScheduleCount = omega arith
number_most TimingEntries = omega arith
number_most TimingMaxTid = omega arith
number_most ElementalDuration = omega arith
number_most TimingIndex = omega arith
number_most StopBitMissing = omega arith
number_most StopBitZero = omega arith
number_most AlignmentBitOne = omega arith
number_most RecordTooShort = omega arith
number_most NotWellFormed = omega arith
number_most OutputTooShort = omega arith
number_most ItemMissing = omega arith
number_most IdZero = omega arith
number_most CodePastEnd = omega arith

pub in_table_of : (refusal : Refusal) → InTable (number_of refusal)
in_table_of refusal = record { first = number_some refusal; last = number_most refusal }

-- ── The refusal of a number ───────────────────────────────────────────
refusals : List Refusal
refusals = UnitTooShort ∷ NotAVps ∷ RbspTooLong ∷ WorkTooShort ∷ SublayersReserved ∷ LayerIdsNotRising ∷ NoDirectReference ∷ ModeReserved ∷ NoOutputLayer ∷ PtlsOverSets ∷ PtlMaxTid ∷ PtlAlignment ∷ PtlIndex ∷ CodeTooLong ∷ DpbSlots ∷ DpbMaxTid ∷ DpbBuffering ∷ DpbReorder ∷ DpbDepth ∷ DpbIndex ∷ TimingZero ∷ ScheduleCount ∷ TimingEntries ∷ TimingMaxTid ∷ ElementalDuration ∷ TimingIndex ∷ StopBitMissing ∷ StopBitZero ∷ AlignmentBitOne ∷ RecordTooShort ∷ NotWellFormed ∷ OutputTooShort ∷ ItemMissing ∷ IdZero ∷ CodePastEnd ∷ []

-- of number k + 1
named : ℕ → Refusal
named k = get_or refusals k CodePastEnd

is_named : ℕ → Bool
is_named k = eqb (number_of (named k)) (suc k)

all_named : every_below is_named last_number ≡ true
unfolding last_number table is_named named refusals
all_named = refl

pub refusal_of : (n : ℕ) → InTable n → (refusal : Refusal) × (number_of refusal ≡ n)
unfolding named is_named
refusal_of zero t = absurd (omega (arith, t.first))
refusal_of (suc k) t = (named k, eqb-true (number_of (named k)) (suc k) (every_below_lem is_named last_number all_named k (omega (arith, t.last))))

-- a number that no refusal has has no sentence
pub unnamed : (n : ℕ) → ((refusal : Refusal) → number_of refusal ≢ n) → sentence_of n ≡ []
unnamed n none = nothing_said n (no_words n (λ t. let found = refusal_of n t in none found.0 found.1))

-- that of a number of the table is found
pub found_of : (n : ℕ) → InTable n → (x : Result Refusal NoRefusal) → Decodes n x → found_number (result_ok x) ≡ n
found_of n t (Ok refusal) is = is
found_of n t (Err e) is = let found = refusal_of n t in absurd (is.1 found.0 found.1)
