-- Writing a record: well formed or not, and the unit's bytes.
use Rattle.std.specs.Prelude.{ℕ, ◌+◌, List, [], ◌∷◌, ◌++◌, Bool, true, false, ◌&&◌, ◌||◌, leb, eqb, length, get_or, take, drop}
use Rattle.refusals.specs.Answer.{Answer}
use Rattle.refusals.specs.Answer.Answer.{success, refusal}
use Rattle.refusals.specs.Number.{not_well_formed}
use Rattle.lists.specs.Same.{same}
use Rattle.stuffing.specs.Stuffing.{stuff}
use Rattle.bits.specs.Bits.{pack}
use Rattle.bits.specs.Writing.{trailing_bits}
use Rattle.vps_definition.specs.Rules.{Rules, today}
use Rattle.vps_definition.specs.Syntax.{Written, emit}
use Rattle.vps_definition.specs.Syntax.Written.{wrote, bad}
use Rattle.vps_definition.specs.Syntax.{Token}
use Rattle.vps_definition.specs.Vps.{vps_under}
use Rattle.vps_definition.specs.Record.{record_of}
use Rattle.vps_definition.specs.Reading.{most_rbsp_bytes}

-- ── The extension ─────────────────────────────────────────────────────
unfoldable pub all_flags : List ℕ → Bool
all_flags [] = true
all_flags (x ∷ e) = elim (leb x 1) [ true ↦ all_flags e | false ↦ false ]

-- extension bits only under flag 1, ending in either bit
unfoldable pub extension_good : (flag : ℕ) → List ℕ → Bool
extension_good flag e = all_flags e && (eqb flag 1 || eqb (length e) 0)

-- the extension at the front of a record's rest: its count, and so many numbers
unfoldable pub extension_of : List ℕ → List ℕ
extension_of x = take (get_or x 0 0) (drop 1 x)

-- ── The whole ─────────────────────────────────────────────────────────
-- the RBSP of the table's bits and the extension's
unfoldable pub rbsp_of : List ℕ → List ℕ → List ℕ
rbsp_of b e = pack ((b ++ e) ++ trailing_bits (length (b ++ e)))

-- the unit of an RBSP: the header of layer 0 with TemporalId 0, and the stuffed bytes
unfoldable pub unit_of : List ℕ → List ℕ
unit_of rbsp = 0 ∷ 113 ∷ stuff rbsp

unfoldable pub limited : List ℕ → Answer (List ℕ)
limited rbsp = elim (leb (length rbsp) most_rbsp_bytes) [ true ↦ success (unit_of rbsp) | false ↦ refusal not_well_formed ]

-- the parts make up the record, nothing more and nothing less, and its extension is one
unfoldable pub parts_good : List ℕ → List Token → List ℕ → List ℕ → Bool
parts_good general t e r = same (record_of general t e) r && extension_good (get_or general 8 0) e

unfoldable pub finished : List ℕ → Written (List ℕ) → Answer (List ℕ)
finished r bad = refusal not_well_formed
finished r (wrote general t x b) =
    elim (parts_good general t (extension_of x) r) [
      | true ↦ limited (rbsp_of b (extension_of x))
      | false ↦ refusal not_well_formed
    ]

-- a well-formed record's bytes; any other is refused
unfoldable pub write_record_under : Rules → List ℕ → Answer (List ℕ)
write_record_under rules r = finished r (emit (vps_under rules) r (drop 9 r) 0)

abbrev pub write_record : List ℕ → Answer (List ℕ)
write_record = write_record_under today

unfoldable pub well_formed_under : Rules → List ℕ → Bool
well_formed_under rules r = elim (write_record_under rules r) [ success bytes ↦ true | refusal n ↦ false ]

abbrev pub well_formed : List ℕ → Bool
well_formed = well_formed_under today
