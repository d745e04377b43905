-- Reading a unit: header, unstuffing, the length limit, the table, the extension, the trailing bits. It knows no buffers.
use Rattle.std.specs.Prelude.{ℕ, zero, suc, ◌+◌, ◌*◌, ◌-◌, ◌/◌, List, [], ◌∷◌, ◌++◌, true, false, leb, eqb, length, get_or}
use Rattle.refusals.specs.Answer.{Answer}
use Rattle.refusals.specs.Answer.Answer.{success, refusal}
use Rattle.refusals.specs.Number.{unit_too_short, not_a_vps, rbsp_too_long}
use Rattle.stuffing.specs.Stuffing.{unstuff}
use Rattle.bits.specs.Bits.{bit_at, to_boundary}
use Rattle.bits.specs.Reading.{more_data, trailing_at}
use Rattle.vps_definition.specs.Rules.{Rules, today}
use Rattle.vps_definition.specs.Syntax.{Outcome, run, Span, span, spans}
use Rattle.vps_definition.specs.Syntax.Outcome.{accepted, refused}
use Rattle.vps_definition.specs.Vps.{vps_under}
use Rattle.vps_definition.specs.Record.{record_of}

-- a record, and the bits used through the trailing bits; or a refusal's number
pub data Reading : Type 0 where
  accepts : (vps_record : List ℕ) (bits-used : ℕ) → Reading
  refuses : (number : ℕ) → Reading

-- ── The extension ─────────────────────────────────────────────────────
-- n bits from a place on
unfoldable pub bits_at : List ℕ → ℕ → ℕ → List ℕ
bits_at s at zero = []
bits_at s at (suc n) = bit_at s at ∷ bits_at s (at + 1) n

-- how many bits are read while more_rbsp_data(), out of n at the most
unfoldable pub data_bits : List ℕ → ℕ → ℕ → ℕ
data_bits s at zero = 0
data_bits s at (suc n) = elim (more_data s at) [ true ↦ suc (data_bits s (at + 1) n) | false ↦ 0 ]

-- vps_extension_data_flag, under vps_extension_flag 1
unfoldable pub extension_bits : (flag : ℕ) → List ℕ → ℕ → ℕ
extension_bits flag s at = elim (eqb flag 0) [ true ↦ 0 | false ↦ data_bits s at (8 * length s - at) ]

-- ── The whole ─────────────────────────────────────────────────────────
unfoldable pub ended : (vps_record : List ℕ) → Answer ℕ → Reading
ended r (success next) = accepts r next
ended r (refusal n) = refuses n

unfoldable pub closed : List ℕ → Outcome (List ℕ) → Reading
closed s (accepted general t at) =
    let n = extension_bits (get_or general 8 0) s at in
    ended (record_of general t (bits_at s at n)) (trailing_at s (at + n))
closed s (refused n t) = refuses n

unfoldable pub read_rbsp_under : Rules → List ℕ → Reading
read_rbsp_under rules s = closed s (run (vps_under rules) s 0)

abbrev pub read_rbsp : List ℕ → Reading
read_rbsp = read_rbsp_under today

-- the bits that the reading takes: the table's, the extension's, and the trailing bits
unfoldable pub closed_spans : List ℕ → Outcome (List ℕ) → List Span
closed_spans s (accepted general t at) =
    let n = extension_bits (get_or general 8 0) s at in
    span at (at + n) ∷ span (at + n) (at + n + 1 + to_boundary (at + n + 1)) ∷ []
closed_spans s (refused n t) = []

unfoldable pub rbsp_spans_under : Rules → List ℕ → List Span
rbsp_spans_under rules s = spans (vps_under rules) s 0 ++ closed_spans s (run (vps_under rules) s 0)

abbrev pub rbsp_spans : List ℕ → List Span
rbsp_spans = rbsp_spans_under today

abbrev pub most_rbsp_bytes : ℕ
most_rbsp_bytes = 65535

-- an RBSP within the limit, by a given reading of it
unfoldable pub limited_by : (List ℕ → Reading) → List ℕ → Reading
limited_by read s = elim (leb (length s) most_rbsp_bytes) [ true ↦ read s | false ↦ refuses rbsp_too_long ]

abbrev pub read_limited : List ℕ → Reading
read_limited = limited_by read_rbsp

-- nal_unit_type of a VPS
abbrev pub vps_nut : ℕ
vps_nut = 14

-- a unit, by a given reading of its RBSP
unfoldable pub unit_by : (List ℕ → Reading) → List ℕ → Reading
unit_by read [] = refuses unit_too_short
unit_by read (a ∷ []) = refuses unit_too_short
unit_by read (a ∷ b ∷ s) = elim (eqb (b / 8) vps_nut) [ true ↦ limited_by read (unstuff s) | false ↦ refuses not_a_vps ]

abbrev pub read_unit_under : Rules → List ℕ → Reading
read_unit_under rules = unit_by (read_rbsp_under rules)

abbrev pub read_unit : List ℕ → Reading
read_unit = read_unit_under today
