-- Worked link figures: of a record with two entries, the largest and the smallest, and each way to be refused.
use Rattle.std.specs.Prelude.{ℕ, ◌≡◌, refl, List, [], ◌∷◌, Some, None}
use Rattle.refusals.specs.Answer.Answer.{success, refusal}
use Rattle.refusals.specs.Number.{not_well_formed, item_missing}
use Rattle.vps_definition.specs.Open.{opened}
use Rattle.vps_definition.specs.Cases.{record_u}
use Rattle.record_timing.specs.declared.schedule.Kind.TheVariants.{Nal, Vcl}
use Rattle.record_timing.specs.Timing.{schedule_count, has_timing, has_entry, has_sublayer, has_schedule, lacks}
use Rattle.link_figures.specs.Figures.{bit_rate_of, cpb_size_of, microseconds_of, interval_of, rate_at, size_at, interval_at, bit_rate, buffer_size, picture_interval}

unfoldable figured : Unit {0}
unfolding opened schedule_count has_timing has_entry has_sublayer has_schedule lacks bit_rate_of cpb_size_of microseconds_of interval_of rate_at size_at interval_at bit_rate buffer_size picture_interval
figured = tt

-- ── Formulas ──────────────────────────────────────────────────────────
rates : (bit_rate_of 4294967294 15 ≡ 9007199252643840) × (bit_rate_of 0 0 ≡ 64)
unfolding bit_rate_of
rates = (refl, refl)

sizes : (cpb_size_of 4294967294 15 ≡ 2251799813160960) × (cpb_size_of 0 0 ≡ 16)
unfolding cpb_size_of
sizes = (refl, refl)

-- 2,048 ticks of the slowest clock; a tick of the fastest, which is less than a microsecond; and of a clock for 29.97 pictures a second
intervals : (interval_of 2047 4294967295 1 ≡ 8796093020160000000) × (interval_of 0 1 4294967295 ≡ 0) × (interval_of 0 1001 30000 ≡ 33366)
unfolding interval_of microseconds_of
intervals = (refl, refl, refl)

-- ── Of a record ───────────────────────────────────────────────────────
-- three layers and two timing entries of two sublayers and one, each sublayer with two NAL and two VCL schedules; by its clock, its two
-- scales, entry 0's sublayer 0, and that sublayer's first NAL schedule
two_entries : (units scale bit-scale cpb-scale within elemental rate size : ℕ) → List ℕ
two_entries units scale bit-scale cpb-scale within elemental rate size = 3 ∷ 1 ∷ 1 ∷ 0 ∷ 0 ∷ 0 ∷ 0 ∷ 0 ∷ 0 ∷ 5 ∷ 1 ∷ 0 ∷ 6 ∷ 0 ∷ 0 ∷ 1 ∷ 2 ∷ 9 ∷ 0 ∷ 1 ∷ 0 ∷ 2 ∷ 1 ∷ 1 ∷ 0 ∷ 1 ∷ 1 ∷ 1 ∷ 1 ∷ 0 ∷ 51 ∷ 0 ∷ 1 ∷ 0 ∷ 0 ∷ 0 ∷ 0 ∷ 3 ∷ 0 ∷ 0 ∷ 0 ∷ 1 ∷ 1 ∷ 4 ∷ 2 ∷ 0 ∷ 2 ∷ 1920 ∷ 1080 ∷ 1 ∷ 2 ∷ 0 ∷ 1920 ∷ 1080 ∷ 1 ∷ 2 ∷ 0 ∷ 1 ∷ units ∷ scale ∷ 1 ∷ 1 ∷ 0 ∷ 1 ∷ 0 ∷ bit-scale ∷ cpb-scale ∷ 0 ∷ 1 ∷ 1 ∷ 2 ∷ 1 ∷ 0 ∷ within ∷ elemental ∷ 0 ∷ rate ∷ size ∷ 102 ∷ 103 ∷ 1 ∷ 110 ∷ 111 ∷ 112 ∷ 113 ∷ 1 ∷ 120 ∷ 121 ∷ 122 ∷ 123 ∷ 1 ∷ 130 ∷ 131 ∷ 132 ∷ 133 ∷ 1 ∷ 0 ∷ 1 ∷ 8 ∷ 0 ∷ 200 ∷ 201 ∷ 202 ∷ 203 ∷ 1 ∷ 210 ∷ 211 ∷ 212 ∷ 213 ∷ 1 ∷ 220 ∷ 221 ∷ 222 ∷ 223 ∷ 1 ∷ 230 ∷ 231 ∷ 232 ∷ 233 ∷ 1 ∷ 0 ∷ 0 ∷ 1 ∷ 9 ∷ 0 ∷ 300 ∷ 301 ∷ 302 ∷ 303 ∷ 1 ∷ 310 ∷ 311 ∷ 312 ∷ 313 ∷ 1 ∷ 320 ∷ 321 ∷ 322 ∷ 323 ∷ 1 ∷ 330 ∷ 331 ∷ 332 ∷ 333 ∷ 1 ∷ 0 ∷ 1 ∷ 0 ∷ 9 ∷ 24 ∷ 25 ∷ 37 ∷ 41 ∷ 57 ∷ 147 ∷ 156 ∷ []

abbrev plain : List ℕ
plain = two_entries 1001 60000 2 3 1 7 100 101

-- the first NAL schedule of entry 0's sublayer 0 has fields 100 and 101, scaled by 2 and 3; entry 1's last VCL schedule 330 and 331
figures : (bit_rate plain 0 0 Nal 0 ≡ success 25856) × (buffer_size plain 0 0 Nal 0 ≡ success 13056) × (bit_rate plain 1 0 Vcl 1 ≡ success 84736) × (buffer_size plain 1 0 Vcl 1 ≡ success 42496)
unfolding figured two_entries
figures = (refl, refl, refl, refl)

-- 8 and 10 ticks of 1,001 at 60,000 units a second, rounded down
picture_intervals : (picture_interval plain 0 0 ≡ success (Some 133466)) × (picture_interval plain 1 0 ≡ success (Some 166833))
unfolding figured two_entries
picture_intervals = (refl, refl)

-- the same with the largest rate field and scale, and with the largest size field and scale
largest_rate : bit_rate (two_entries 1001 60000 15 3 1 7 4294967294 101) 0 0 Nal 0 ≡ success 9007199252643840
unfolding figured two_entries
largest_rate = refl

largest_size : buffer_size (two_entries 1001 60000 2 15 1 7 100 4294967294) 0 0 Nal 0 ≡ success 2251799813160960
unfolding figured two_entries
largest_size = refl

-- with the slowest clock and the longest duration, and with the fastest clock and the shortest
largest_interval : picture_interval (two_entries 4294967295 1 2 3 1 2047 100 101) 0 0 ≡ success (Some 8796093020160000000)
unfolding figured two_entries
largest_interval = refl

smallest_interval : picture_interval (two_entries 1 4294967295 2 3 1 0 100 101) 0 0 ≡ success (Some 0)
unfolding figured two_entries
smallest_interval = refl

-- without a fixed rate within a sequence
missing_interval : picture_interval (two_entries 1001 60000 2 3 0 0 100 101) 0 0 ≡ success None
unfolding figured two_entries
missing_interval = refl

-- ── Refused ───────────────────────────────────────────────────────────
-- the record of samples/timing.vps: NAL schedules alone, two of them
pub nal_alone : List ℕ
nal_alone = 2 ∷ 1 ∷ 0 ∷ 1 ∷ 0 ∷ 0 ∷ 0 ∷ 0 ∷ 0 ∷ 0 ∷ 1 ∷ 0 ∷ 1 ∷ 0 ∷ 0 ∷ 1 ∷ 1 ∷ 0 ∷ 1 ∷ 1 ∷ 0 ∷ 1 ∷ 0 ∷ 51 ∷ 0 ∷ 0 ∷ 0 ∷ 0 ∷ 0 ∷ 2 ∷ 0 ∷ 0 ∷ 1 ∷ 0 ∷ 0 ∷ 0 ∷ 0 ∷ 1 ∷ 0 ∷ 0 ∷ 0 ∷ 0 ∷ 0 ∷ 1 ∷ 1001 ∷ 60000 ∷ 1 ∷ 0 ∷ 0 ∷ 0 ∷ 0 ∷ 0 ∷ 0 ∷ 0 ∷ 1 ∷ 0 ∷ 1 ∷ 0 ∷ 0 ∷ 0 ∷ 0 ∷ 0 ∷ 3 ∷ 4 ∷ 1 ∷ 4 ∷ 4 ∷ 1 ∷ 0 ∷ 0 ∷ 9 ∷ 17 ∷ 18 ∷ 29 ∷ 32 ∷ 43 ∷ 69 ∷ 78 ∷ []

nal_figures : (bit_rate nal_alone 0 0 Nal 1 ≡ success 320) × (buffer_size nal_alone 0 0 Nal 1 ≡ success 80) × (picture_interval nal_alone 0 0 ≡ success None)
unfolding figured nal_alone
nal_figures = (refl, refl, refl)

-- no VCL schedules, an entry, a sublayer and a schedule past the last one
none : (bit_rate nal_alone 0 0 Vcl 0 ≡ refusal item_missing) × (bit_rate nal_alone 1 0 Nal 0 ≡ refusal item_missing) × (bit_rate nal_alone 0 1 Nal 0 ≡ refusal item_missing) × (bit_rate nal_alone 0 0 Nal 2 ≡ refusal item_missing)
unfolding figured nal_alone
none = (refl, refl, refl, refl)

-- entry 0 stores two sublayers, entry 1 one
none_stored : (picture_interval plain 0 2 ≡ refusal item_missing) × (picture_interval plain 1 1 ≡ refusal item_missing) × (buffer_size plain 2 0 Nal 0 ≡ refusal item_missing)
unfolding figured two_entries
none_stored = (refl, refl, refl)

-- U has no timing section; and a list that is not well formed comes before an item that isn't there
no_timing : picture_interval (record_u 0 (0 ∷ []) 38) 0 0 ≡ refusal item_missing
unfolding figured record_u
no_timing = refl

ill_formed : (picture_interval [] 0 0 ≡ refusal not_well_formed) × (bit_rate (two_entries 1001 60000 2 3 1 2048 100 101) 9 9 Vcl 9 ≡ refusal not_well_formed)
unfolding figured two_entries
ill_formed = (refl, refl)
