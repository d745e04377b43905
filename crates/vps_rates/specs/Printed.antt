-- What vps-rates prints for a unit: a table of its record's link figures, `no timing`, or `refused` and the number.
use Rattle.std.specs.Prelude.{ℕ, zero, suc, List, [], ◌++◌, cond, eqb}
use Rattle.refusals.specs.Number.{item_missing}
use Rattle.texts.specs.Bytes.{bytes}
use Rattle.sentences.specs.Refused.{refused_text}
use Rattle.vps_definition.specs.Reading.{Reading, read_unit}
use Rattle.vps_definition.specs.Reading.Reading.{accepts, refuses}
use Rattle.vps_definition.specs.Layout.{timing_count}
use Rattle.vps_definition.specs.Views.{sublayer_count}
use Rattle.record_timing.specs.declared.schedule.Kind.{Kind}
use Rattle.record_timing.specs.declared.schedule.Kind.TheVariants.{Nal, Vcl}
use Rattle.record_timing.specs.Timing.{schedule_count, has_timing, lacks}
use Rattle.link_figures.specs.Figures.{rate_at, size_at, interval_at}
use Rattle.vps_rates.specs.Lines.{sublayer_line, schedule_line}

unfoldable pub heading : List ℕ
heading = bytes "entry sublayer         microseconds kind schedule            bit/s             bits\n"

-- the texts of the first n of some items, one after the other
unfoldable pub texts : (ℕ → List ℕ) → ℕ → List ℕ
texts text zero = []
texts text (suc n) = texts text n ++ text n

-- the schedules of a kind of a sublayer, a line each
unfoldable pub schedule_text : List ℕ → (entry sublayer : ℕ) → Kind → (schedule : ℕ) → List ℕ
schedule_text r e j kind c = schedule_line e j kind c (rate_at r e j kind c) (size_at r e j kind c)

unfoldable pub schedules_text : List ℕ → (entry sublayer : ℕ) → Kind → List ℕ
schedules_text r e j kind = texts (schedule_text r e j kind) (schedule_count r kind)

-- a sublayer: its own line, and the schedules of NAL and of VCL
unfoldable pub sublayer_text : List ℕ → (entry sublayer : ℕ) → List ℕ
sublayer_text r e j = sublayer_line e j (interval_at r e j) ++ schedules_text r e j Nal ++ schedules_text r e j Vcl

unfoldable pub entry_text : List ℕ → (entry : ℕ) → List ℕ
entry_text r e = texts (sublayer_text r e) (sublayer_count r e)

unfoldable pub table_text : List ℕ → List ℕ
table_text r = heading ++ texts (entry_text r) (timing_count r)

-- a record that has no timing section has no table, and a list that is not well formed is refused
unfoldable pub without_table : (refusal : ℕ) → List ℕ
without_table k = cond (eqb k item_missing) (bytes "no timing\n") (refused_text k)

unfoldable pub record_text : List ℕ → List ℕ
record_text r = cond (has_timing r) (table_text r) (without_table (lacks r))

-- ── Of a unit ─────────────────────────────────────────────────────────
unfoldable pub reading_text : Reading → List ℕ
reading_text (accepts r n) = record_text r
reading_text (refuses k) = refused_text k

unfoldable pub rates_text : (unit : List ℕ) → List ℕ
rates_text u = reading_text (read_unit u)
