-- What is promised of parse_vps and write_vps_nal as they stand. A call is what its contract relates (Calls.antt), with
-- whatever the buffers held before: `Reads c r n` says that the call c of parse_vps succeeded with the record r and n bits used,
-- `Refuses c k` that it refused with the number k, `Needs c m` that it found the record too short and asked for m numbers, and
-- `Puts w u` that the call w of write_vps_nal succeeded with the bytes u; `ReadRoom` and `WriteRoom` that buffers are long enough.
-- `said c` is the number of the answer, 0 for success, and `Early` holds of the numbers of the checks before the RBSP is read.
use Rattle.std.specs.Prelude.{ℕ, ◌≡◌, List, false, ◌↔◌, length, drop}
use Rattle.refusals.specs.Answer.Answer.{success, refusal}
use Rattle.refusals.specs.Number.{not_well_formed}
use Rattle.vps_definition.specs.Writing.{well_formed}
use Rattle.vps_laws.proofs.Promises as Promised
use Rattle.vps_reader.specs.Parse.Parse.{accepted}
use Rattle.vps_reader.specs.Answers.{parsed_answer}
use Rattle.vps_writer.specs.Write.{written_answer}
use Rattle.vps_promises.specs.Calls.{ReadCall, WriteCall, Puts, refused_leaves, puts_written, puts_leaves, refused_leaves_output, ill_formed_refuses, refuses_ill_formed}

-- Whatever the output's length, the writer says that a record is not well formed exactly if it is not.
pub not_well_formed_iff_31 : {r : List ℕ} (w : WriteCall r) → (written_answer w.answer ≡ refusal not_well_formed) ↔ (well_formed r ≡ false)
not_well_formed_iff_31 w = (refuses_ill_formed w, ill_formed_refuses w)

-- 7. Two records that were written have the same bytes exactly if they are the same.
pub same_bytes_same_record : {r r' u u' : List ℕ} (w : WriteCall r) (w' : WriteCall r') → Puts w u → Puts w' u' → (u ≡ u') ↔ (r ≡ r')
same_bytes_same_record {r} {r'} {u} {u'} w w' P P' = Promised.same_bytes_same_record r r' u u' (puts_written w P) (puts_written w' P')

-- 9. A refusal leaves record and output as they were, and success leaves what is behind the record or the bytes.
pub refused_record_unchanged : {u : List ℕ} (c : ReadCall u) → ((m n : ℕ) → parsed_answer c.answer ≡ accepted m n → ⊥) → c.rec_after ≡ c.rec
refused_record_unchanged = refused_leaves

pub refused_output_unchanged : {r : List ℕ} (w : WriteCall r) → ((n : ℕ) → written_answer w.answer ≡ success n → ⊥) → w.out_after ≡ w.out
refused_output_unchanged = refused_leaves_output

pub behind_the_bytes_unchanged : {r u : List ℕ} (w : WriteCall r) → Puts w u → (length w.out_after ≡ length w.out) × (drop (length u) w.out_after ≡ drop (length u) w.out)
behind_the_bytes_unchanged = puts_leaves
