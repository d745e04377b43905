-- What a record's timing section has: which entries, sublayers and schedules there are, and where a schedule stands.
use Rattle.std.specs.Prelude.{ℕ, ◌+◌, List, Bool, cond, ◌&&◌, ltb, eqb}
use Rattle.refusals.specs.Number.{not_well_formed, item_missing}
use Rattle.vps_definition.specs.TimingHrd.{Hrd}
use Rattle.vps_definition.specs.Writing.{well_formed}
use Rattle.vps_definition.specs.Layout.{timing_flag, timing_count}
use Rattle.vps_definition.specs.Views.{hrd_of, schedules_length, sublayer_count, nal_schedule_at, vcl_schedule_at}
use Rattle.record_timing.specs.declared.schedule.Kind.{Kind}
use Rattle.record_timing.specs.declared.schedule.Kind.TheVariants.{Nal, Vcl}

-- the flag under which sublayers have schedules of a kind
abbrev pub flag_of : Hrd → Kind → ℕ
flag_of h Nal = h.nal
flag_of h Vcl = h.vcl

-- how many schedules of a kind each sublayer has
unfoldable pub schedule_count : List ℕ → Kind → ℕ
schedule_count r kind = cond (eqb (flag_of (hrd_of r) kind) 0) 0 ((hrd_of r).cpb_cnt_minus1 + 1)

-- where those of a kind begin in a sublayer
abbrev pub schedules_start : Hrd → Kind → ℕ
schedules_start h Nal = 4
schedules_start h Vcl = 4 + schedules_length h h.nal

-- the record from schedule c of a sublayer on
abbrev pub schedule_at : List ℕ → (entry sublayer : ℕ) → Kind → ℕ → List ℕ
schedule_at r e j Nal c = nal_schedule_at r e j c
schedule_at r e j Vcl c = vcl_schedule_at r e j c

-- ── What there is ─────────────────────────────────────────────────────
-- a well-formed record's timing section, and its entries, sublayers and schedules
unfoldable pub has_timing : List ℕ → Bool
has_timing r = well_formed r && eqb (timing_flag r) 1

unfoldable pub has_entry : List ℕ → (entry : ℕ) → Bool
has_entry r e = has_timing r && ltb e (timing_count r)

unfoldable pub has_sublayer : List ℕ → (entry sublayer : ℕ) → Bool
has_sublayer r e j = has_entry r e && ltb j (sublayer_count r e)

unfoldable pub has_schedule : List ℕ → (entry sublayer : ℕ) → Kind → ℕ → Bool
has_schedule r e j kind c = has_sublayer r e j && ltb c (schedule_count r kind)

-- the refusal of a record that lacks what is asked for: a list that is not well formed comes first
unfoldable pub lacks : List ℕ → ℕ
lacks r = cond (well_formed r) item_missing not_well_formed
