-- What is promised of the definition, for every unit and every record. Bytes, records and units are lists of numbers;
-- `read_unit u ≡ accepts r n` says that the unit u is accepted with the record r and n bits used, and
-- `write_record r ≡ success u` that the record r is well formed and written as the unit u.
use Rattle.std.specs.Prelude.{ℕ, ◌+◌, ◌*◌, ◌≤◌, ◌<◌, ◌≡◌, List, ◌++◌, true, ◌↔◌, length, get_or, take, drop}
use Rattle.std.proofs.Common.{sym, ap, ◌∙◌}
use Rattle.refusals.specs.Answer.Answer.{success}
use Rattle.stuffing.specs.Stuffing.{unstuff}
use Rattle.bits.specs.FieldLaws.{Agree}
use Rattle.vps_definition.specs.Rules.{today}
use Rattle.vps_definition.specs.Layout.{layer_ids, ptl_count, set_count, ptl_indices, dpb_count, multi_count, dpb_indices, timing_flag, timing_count, timing_indices}
use Rattle.vps_definition.specs.Reading.{rbsp_spans, most_rbsp_bytes, read_unit}
use Rattle.vps_definition.specs.Reading.Reading.{accepts}
use Rattle.vps_definition.specs.Writing.{write_record, well_formed}
use Rattle.vps_laws.specs.Reading.{Each, Gapless}
use Rattle.vps_laws.proofs.Units.{written_read, written_once}
use Rattle.vps_laws.specs.Claims.{ids_many, rising, below, accepted_reads, written_well_formed, well_formed_written}
use Rattle.vps_laws.proofs.Claims.{accepted_sound, accepted_written, spans_used, bits_counted}
use Rattle.vps_laws.proofs.UsedBitsThen.{unit_used}
use Rattle.vps_laws.proofs.UsedBitsThen2.{unit_appended}

-- 1. Every accepted unit's record is well formed and is written; what was written is accepted with that record,
-- and the bits used are eight times its RBSP's bytes.
pub accepted_is_written : (u r : List ℕ) (n : ℕ) → read_unit u ≡ accepts r n → (well_formed r ≡ true) × ((v : List ℕ) × (write_record r ≡ success v))
accepted_is_written u r n e = let W = accepted_written today u r n e in (written_well_formed today r W.0 W.1, W)

pub written_is_read_back : (r u : List ℕ) → write_record r ≡ success u → read_unit u ≡ accepts r (8 * length (unstuff (drop 2 u)))
written_is_read_back = written_read today

-- 2. Of an accepted record, by its own numbers: each of the layers' ids is above the one before; each set's PTL index is below the
-- PTL count, the index among each DPB entry's five below the DPB slots, and each timing index below the timing entries.
pub layer_ids_rise : (u r : List ℕ) (n : ℕ) → read_unit u ≡ accepts r n
    → (length (layer_ids r) ≡ get_or r 0 0) × ((i : ℕ) → i + 1 < length (layer_ids r) → get_or (layer_ids r) i 0 < get_or (layer_ids r) (i + 1) 0)
layer_ids_rise u r n e = (ids_many r, rising 0 (layer_ids r) (accepted_sound today u r n e).ids)

pub ptl_index_inside : (u r : List ℕ) (n : ℕ) → read_unit u ≡ accepts r n
    → (length (ptl_indices r) ≡ set_count r) × ((i : ℕ) → i < length (ptl_indices r) → get_or (ptl_indices r) i 0 < ptl_count r)
ptl_index_inside u r n e = let S = (accepted_sound today u r n e).ptls in (S.many, below (ptl_count r) (ptl_indices r) S.below)

pub dpb_index_inside : (u r : List ℕ) (n : ℕ) → read_unit u ≡ accepts r n
    → (length (dpb_indices r) ≡ multi_count r) × ((i : ℕ) → i < length (dpb_indices r) → get_or (dpb_indices r) i 0 < dpb_count r)
dpb_index_inside u r n e = let S = (accepted_sound today u r n e).dpbs in (S.many, below (dpb_count r) (dpb_indices r) S.below)

pub timing_index_inside : (u r : List ℕ) (n : ℕ) → read_unit u ≡ accepts r n → timing_flag r ≡ 1
    → (length (timing_indices r) ≡ multi_count r) × ((i : ℕ) → i < length (timing_indices r) → get_or (timing_indices r) i 0 < timing_count r)
timing_index_inside u r n e h = let S = (accepted_sound today u r n e).timings h in (S.many, below (timing_count r) (timing_indices r) S.below)

-- 3. The bits used are at most eight times the RBSP's bytes, and each bit from which a field, a code, an alignment bit, an
-- extension bit or a trailing bit is taken is one of those counted.
pub bits_inside : (u r : List ℕ) (n : ℕ) → read_unit u ≡ accepts r n
    → (n ≤ 8 * length (unstuff (drop 2 u))) × Each (λ taken. taken.to ≤ n) (rbsp_spans (unstuff (drop 2 u)))
bits_inside u r n e = bits_counted today (unstuff (drop 2 u)) r n (accepted_reads today u r n e)

-- They are all bits from the first on, each taken once: those of the table, of the extension and the trailing bits, one behind the other.
pub bits_used_are_the_spans : (u r : List ℕ) (n : ℕ) → read_unit u ≡ accepts r n → Gapless 0 (rbsp_spans (unstuff (drop 2 u))) n
bits_used_are_the_spans u r n e = spans_used today (unstuff (drop 2 u)) r n (accepted_reads today u r n e)

-- 4. Two well-formed records have the same bytes exactly when they are the same list.
pub same_bytes_same_record : (r r' u u' : List ℕ) → write_record r ≡ success u → write_record r' ≡ success u' → (u ≡ u') ↔ (r ≡ r')
same_bytes_same_record r r' u u' e f = (λ q. written_once today r r' u' (e ∙ ap success q) f, λ q. same (sym e ∙ ap write_record q ∙ f))
  where
    same : success u ≡ success u' → u ≡ u'
    same q = cc

-- 5. Only the bits used count, where the extension flag is 0: a unit with the same header and the same bits there, within the length
-- limit, is accepted with the same record and the same bits used.
pub only_used_bits_matter : (u v r : List ℕ) (n : ℕ) → read_unit u ≡ accepts r n → get_or r 8 0 ≡ 0 → take 2 v ≡ take 2 u
    → Agree (unstuff (drop 2 u)) (unstuff (drop 2 v)) n → length (unstuff (drop 2 v)) ≤ most_rbsp_bytes → read_unit v ≡ accepts r n
only_used_bits_matter = unit_used today

-- Bytes appended to an accepted unit with extension flag 0, within the length limit, change nothing.
pub appended_bytes_change_nothing : (u x r : List ℕ) (n : ℕ) → read_unit u ≡ accepts r n → get_or r 8 0 ≡ 0
    → length (unstuff (drop 2 (u ++ x))) ≤ most_rbsp_bytes → read_unit (u ++ x) ≡ accepts r n
appended_bytes_change_nothing = unit_appended today

-- 6. A record is well formed exactly if some unit is read as it.
pub well_formed_iff_read : (r : List ℕ) → (well_formed r ≡ true) ↔ ((u : List ℕ) × (n : ℕ) × (read_unit u ≡ accepts r n))
well_formed_iff_read r = (
  (λ h. let W = well_formed_written today r h in (W.0, 8 * length (unstuff (drop 2 W.0)), written_read today r W.0 W.1)),
  (λ h. (accepted_is_written h.0 r h.1 h.2).0),
)
