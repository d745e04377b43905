-- What is promised of parse_vps and write_vps_nal as they stand. A call is what its contract relates (Calls.antt), with
-- whatever the buffers held before: `Reads c r n` says that the call c of parse_vps succeeded with the record r and n bits used,
-- `Refuses c k` that it refused with the number k, `Needs c m` that it found the record too short and asked for m numbers, and
-- `Puts w u` that the call w of write_vps_nal succeeded with the bytes u; `ReadRoom` and `WriteRoom` that buffers are long enough.
-- `said c` is the number of the answer, 0 for success, and `Early` holds of the numbers of the checks before the RBSP is read.
use Rattle.std.specs.Prelude.{ℕ, ◌+◌, ◌*◌, ◌≤◌, ◌<◌, ◌≡◌, List, ◌++◌, ◌↔◌, length, get_or, take, drop}
use Rattle.refusals.specs.Answer.Answer.{refusal}
use Rattle.refusals.specs.Number.{work_too_short, record_too_short, output_too_short}
use Rattle.lists.specs.Stored.{overlaid}
use Rattle.stuffing.specs.Stuffing.{unstuff}
use Rattle.bits.specs.FieldLaws.{Agree}
use Rattle.vps_definition.specs.Layout.{layer_ids, ptl_count, set_count, ptl_indices, dpb_count, multi_count, dpb_indices, timing_flag, timing_count, timing_indices}
use Rattle.vps_definition.specs.Reading.{rbsp_spans, most_rbsp_bytes, read_unit}
use Rattle.vps_definition.specs.Reading.Reading.{accepts, refuses}
use Rattle.vps_laws.specs.Reading.{Each, Gapless}
use Rattle.vps_laws.proofs.Promises as Promised
use Rattle.vps_writer.specs.Write.{written_answer}
use Rattle.vps_promises.specs.Calls.{ReadCall, said, ReadRoom, Reads, Refuses, Needs, Early, WriteCall, WriteRoom, Puts, accepted_reads, refused_refuses, refuses_refused, room_enough, Longer, longer_needs, needs_longer, early_leaves_work, late_fills_work, puts_written, written_puts}
use Rattle.vps_promises.proofs.Calls.{reads_accepted, reads_leaves, output_enough}

-- 1. With long enough buffers a call succeeds exactly if the definition accepts, with that record and those bits used, and refuses
-- exactly if the definition does, with that number.
pub accepted_iff_read : {u : List ℕ} (c : ReadCall u) → ReadRoom c → (r : List ℕ) (n : ℕ) → (read_unit u ≡ accepts r n) ↔ Reads c r n
accepted_iff_read c room r n = (accepted_reads c room, reads_accepted c)

pub refused_iff_refused : {u : List ℕ} (c : ReadCall u) → ReadRoom c → (k : ℕ) → (read_unit u ≡ refuses k) ↔ Refuses c k
refused_iff_refused c room k = (refused_refuses c room, refuses_refused c room)

-- With a long enough work buffer it asks for m numbers exactly if the definition accepts with a record of m numbers, and there is room for fewer.
pub too_short_iff_longer : {u : List ℕ} (c : ReadCall u) → length (unstuff (drop 2 u)) ≤ length c.work → (m : ℕ) → Needs c m ↔ Longer u (length c.rec) m
too_short_iff_longer c room m = (needs_longer c, longer_needs c room)

-- With long enough buffers none is found too short.
pub room_is_enough : {u : List ℕ} (c : ReadCall u) → ReadRoom c → (said c ≡ work_too_short → ⊥) × (said c ≡ record_too_short → ⊥)
room_is_enough = room_enough

pub output_is_enough : {r : List ℕ} (w : WriteCall r) → WriteRoom w → written_answer w.answer ≡ refusal output_too_short → ⊥
output_is_enough = output_enough

-- 2. Read, written and read again: the record of a unit that was read is written, and what was written is read as that record.
pub read_write_read : {u r : List ℕ} {n : ℕ} (c : ReadCall u) → Reads c r n → (w : WriteCall r) → WriteRoom w
    → (v : List ℕ) × (Puts w v × ((d : ReadCall v) → ReadRoom d → Reads d r (8 * length (unstuff (drop 2 v)))))
read_write_read {u} {r} {n} c R w room =
    let W = (Promised.accepted_is_written u r n (reads_accepted c R)).1 in
    (W.0, (written_puts w room W.1, λ d space. accepted_reads d space (Promised.written_is_read_back r W.0 W.1)))

-- 3. Of a record that was read, by its own numbers: layer ids rise, and each index lies below its table's length.
module _ {u r : List ℕ} {n : ℕ} (c : ReadCall u) (R : Reads c r n) where
  pub layer_ids_rise : (length (layer_ids r) ≡ get_or r 0 0) × ((i : ℕ) → i + 1 < length (layer_ids r) → get_or (layer_ids r) i 0 < get_or (layer_ids r) (i + 1) 0)
  layer_ids_rise = Promised.layer_ids_rise u r n (reads_accepted c R)

  pub ptl_index_inside : (length (ptl_indices r) ≡ set_count r) × ((i : ℕ) → i < length (ptl_indices r) → get_or (ptl_indices r) i 0 < ptl_count r)
  ptl_index_inside = Promised.ptl_index_inside u r n (reads_accepted c R)

  pub dpb_index_inside : (length (dpb_indices r) ≡ multi_count r) × ((i : ℕ) → i < length (dpb_indices r) → get_or (dpb_indices r) i 0 < dpb_count r)
  dpb_index_inside = Promised.dpb_index_inside u r n (reads_accepted c R)

  pub timing_index_inside : timing_flag r ≡ 1 → (length (timing_indices r) ≡ multi_count r) × ((i : ℕ) → i < length (timing_indices r) → get_or (timing_indices r) i 0 < timing_count r)
  timing_index_inside = Promised.timing_index_inside u r n (reads_accepted c R)

  -- 4. No bit past the unit is used: the number reported is at most eight times the RBSP's bytes, and each bit that is taken is one of those counted.
  pub bits_inside : (n ≤ 8 * length (unstuff (drop 2 u))) × Each (λ taken. taken.to ≤ n) (rbsp_spans (unstuff (drop 2 u)))
  bits_inside = Promised.bits_inside u r n (reads_accepted c R)

  -- All bits from the first to the number reported are taken, each once: those of the table, of the extension and the trailing bits, one behind the other.
  pub bits_used_are_the_spans : Gapless 0 (rbsp_spans (unstuff (drop 2 u))) n
  bits_used_are_the_spans = Promised.bits_used_are_the_spans u r n (reads_accepted c R)

  -- 5. Only the bits used count, where the extension flag is 0: a unit with the same header and the same bits there, within the length limit, is read alike.
  pub only_used_bits_matter : (v : List ℕ) → get_or r 8 0 ≡ 0 → take 2 v ≡ take 2 u → Agree (unstuff (drop 2 u)) (unstuff (drop 2 v)) n → length (unstuff (drop 2 v)) ≤ most_rbsp_bytes
      → (d : ReadCall v) → ReadRoom d → Reads d r n
  only_used_bits_matter v f t h l d room = accepted_reads d room (Promised.only_used_bits_matter u v r n (reads_accepted c R) f t h l)

  -- Bytes appended to a unit with extension flag 0, within the length limit, change nothing.
  pub appended_bytes_change_nothing : (x : List ℕ) → get_or r 8 0 ≡ 0 → length (unstuff (drop 2 (u ++ x))) ≤ most_rbsp_bytes → (d : ReadCall (u ++ x)) → ReadRoom d → Reads d r n
  appended_bytes_change_nothing x f l d room = accepted_reads d room (Promised.appended_bytes_change_nothing u x r n (reads_accepted c R) f l)

  -- 6. Whatever the buffers held: any other call on the unit, with long enough buffers, reads the same.
  pub read_alike : (d : ReadCall u) → ReadRoom d → Reads d r n
  read_alike d room = accepted_reads d room (reads_accepted c R)

pub written_alike : {r u : List ℕ} (w : WriteCall r) → Puts w u → (v : WriteCall r) → WriteRoom v → Puts v u
written_alike w P v room = written_puts v room (puts_written w P)

-- 8. The writer finds a record well formed exactly if some unit is read as it.
pub written_iff_read : {r : List ℕ} (w : WriteCall r) → WriteRoom w → ((u : List ℕ) × Puts w u) ↔ ((u : List ℕ) × (n : ℕ) × (read_unit u ≡ accepts r n))
written_iff_read {r} w room = (
  (λ h. (h.0, 8 * length (unstuff (drop 2 h.0)), Promised.written_is_read_back r h.0 (puts_written w h.1))),
  (λ h. let W = (Promised.accepted_is_written h.0 r h.1 h.2).1 in (W.0, written_puts w room W.1)),
)

pub behind_the_record_unchanged : {u r : List ℕ} {n : ℕ} (c : ReadCall u) → Reads c r n → (length c.rec_after ≡ length c.rec) × (drop (length r) c.rec_after ≡ drop (length r) c.rec)
behind_the_record_unchanged = reads_leaves

-- 10. The first four refusals leave the work buffer as it was; with any other answer it begins with the RBSP, which it has room for, and is otherwise as before.
pub early_refusals_leave_work : {u : List ℕ} (c : ReadCall u) → Early (said c) → c.work_after ≡ c.work
early_refusals_leave_work = early_leaves_work

pub work_begins_with_rbsp : {u : List ℕ} (c : ReadCall u) → (Early (said c) → ⊥)
    → (length (unstuff (drop 2 u)) ≤ length c.work) × (c.work_after ≡ overlaid (unstuff (drop 2 u)) c.work)
work_begins_with_rbsp = late_fills_work
