-- What each change of a rule changed in parse_vps and write_vps_nal as they stand, whatever the buffers held: a call's answer beside
-- that of the rule of before.
use Rattle.std.specs.Prelude.{ℕ, ◌+◌, ◌/◌, ◌≤◌, ◌<◌, ◌≡◌, List, [], ◌∷◌, ◌++◌, true, ◌↔◌, length, get_or, drop}
use Rattle.std.proofs.Common.{sym, ap, ◌∙◌, arith}
use Rattle.std.proofs.lemmas.List.Edits.{sets}
use Rattle.refusals.specs.Answer.Answer.{success, refusal}
use Rattle.refusals.specs.Number.{sublayers_reserved, stop_bit_zero, not_well_formed, id_zero, code_past_end}
use Rattle.stuffing.specs.Stuffing.{unstuff}
use Rattle.bits.specs.Bits.{field_at}
use Rattle.vps_definition.specs.Rules.{today, taking_id}
use Rattle.vps_definition.specs.Record.{start_of}
use Rattle.vps_definition.specs.Layout.{extension_in}
use Rattle.vps_definition.specs.Reading.{most_rbsp_bytes, vps_nut, read_unit_under, read_unit}
use Rattle.vps_definition.specs.Reading.Reading.{accepts, refuses}
use Rattle.vps_definition.specs.Writing.{all_flags, write_record_under, well_formed}
use Rattle.vps_laws.specs.Units.{not_accepts}
use Rattle.vps_laws.specs.Claims.{refused_ill_formed, well_formed_written}
use Rattle.vps_laws.specs.LongerExtension.{unit_with_shorter_extension}
use Rattle.vps_laws.specs.CutCodes.{unit_with_cut_codes}
use Rattle.vps_laws.proofs.Changes as Changed
use Rattle.vps_writer.specs.Write.{written_answer}
use Rattle.vps_promises.specs.Calls.{Unpacked, ReadCall, ReadRoom, Reads, Refuses, WriteCall, WriteRoom, Puts, not_success, accepted_reads, refused_refuses, refuses_refused, puts_written, written_puts, refused_leaves_output, ill_formed_refuses}
use Rattle.vps_promises.proofs.Calls.{reads_accepted, leaves_unpacked}

-- ── Extension bits run up to the last one-bit ─────────────────────────
-- A unit that was accepted is read with the same record and bits used, and one that is refused was refused with the same number.
pub extensions_stay : {u : List ℕ} (c : ReadCall u) → ReadRoom c → (r : List ℕ) (n : ℕ) → unit_with_shorter_extension today u ≡ accepts r n → Reads c r n
extensions_stay {u} c room r n e = accepted_reads c room (Changed.extensions_stay today u r n e)

pub refusals_stay : {u : List ℕ} (c : ReadCall u) → ReadRoom c → (k : ℕ) → Refuses c k → unit_with_shorter_extension today u ≡ refuses k
refusals_stay {u} c room k R = Changed.refusals_stay today u k (refuses_refused c room R)

-- Where the answer is another, it was 28, and the unit is read with a record of extension flag 1 whose extension bits end in 0.
pub answers_moved_from_28 : {u : List ℕ} (c : ReadCall u) → ReadRoom c → (read_unit u ≡ unit_with_shorter_extension today u → ⊥)
    → (unit_with_shorter_extension today u ≡ refuses stop_bit_zero) × ((r : List ℕ) × ((n : ℕ) × (Reads c r n × ((get_or r 8 0 ≡ 1) × ((e : List ℕ) × (extension_in r ≡ e ++ (0 ∷ [])))))))
answers_moved_from_28 {u} c room h =
    let M = Changed.answers_moved_from_28 today u h in
    let A = M.1.1.1 in
    (M.0, (M.1.0, (M.1.1.0, (accepted_reads c room A.0, A.1))))

-- A record that is well formed is written with any other extension bits in their place, as many.
pub any_extension_bits : (r e : List ℕ) → well_formed r ≡ true → all_flags e ≡ true → length e ≡ length (extension_in r) → (w : WriteCall (sets r (start_of r 7 + 1) e)) → WriteRoom w → (u : List ℕ) × Puts w u
any_extension_bits r e h f l w room =
    let W = well_formed_written today (sets r (start_of r 7 + 1) e) (Changed.any_extension_bits today r e h f l) in
    (W.0, written_puts w room W.1)

-- ── Id 0 is refused ───────────────────────────────────────────────────
-- Every unit that header and length let through and whose id's four bits are 0 is refused with 34, as long as the work buffer has room for its RBSP.
pub id_zero_is_refused : {u : List ℕ} (c : ReadCall u) → 2 ≤ length u → get_or u 1 0 / 8 ≡ vps_nut → length (unstuff (drop 2 u)) ≤ most_rbsp_bytes
    → field_at (unstuff (drop 2 u)) 0 4 ≡ 0 → length (unstuff (drop 2 u)) ≤ length c.work → Refuses c id_zero
id_zero_is_refused {u} c l h k z w =
    let R = Changed.id_zero_is_refused today u l h k z in
    refused_refuses c (record { for_rbsp = w; for_record = λ r n e. not_accepts (sym R ∙ e) }) R

-- Refused with 34 as with 5, the work buffer has room for the RBSP and begins with it, and is otherwise as before; and the record is as before.
pub id_zero_leaves_work_as_5 : {u : List ℕ} (c : ReadCall u) → (Refuses c id_zero → Unpacked c) × (Refuses c sublayers_reserved → Unpacked c)
id_zero_leaves_work_as_5 c = (λ N. leaves_unpacked c N (omega arith), λ N. leaves_unpacked c N (omega arith))

-- Every other unit has the answer of before.
pub units_with_an_id_stay : {u : List ℕ} (c : ReadCall u) → ReadRoom c → 0 < field_at (unstuff (drop 2 u)) 0 4 → (k : ℕ) → Refuses c k ↔ (read_unit_under (taking_id today) u ≡ refuses k)
units_with_an_id_stay {u} c room l k =
    let S = Changed.units_with_an_id_stay today u l in
    (λ N. sym S ∙ refuses_refused c room N, λ e. refused_refuses c room (S ∙ e))

-- A unit is read exactly if it was before with an id above 0, with the same record and bits used.
pub accepted_with_an_id : {u : List ℕ} (c : ReadCall u) → ReadRoom c → (r : List ℕ) (n : ℕ) → Reads c r n ↔ ((read_unit_under (taking_id today) u ≡ accepts r n) × (0 < get_or r 1 0))
accepted_with_an_id {u} c room r n =
    let A = Changed.accepted_with_an_id today u r n in
    (λ R. A.0 (reads_accepted c R), λ e. accepted_reads c room (A.1 e))

-- The writer refuses a record with id 0 with 31, and leaves the output as it was.
pub id_zero_is_not_written : {r : List ℕ} (w : WriteCall r) → get_or r 1 0 ≡ 0 → (written_answer w.answer ≡ refusal not_well_formed) × (w.out_after ≡ w.out)
id_zero_is_not_written {r} w z =
    let A = ill_formed_refuses w (refused_ill_formed today r (Changed.id_zero_is_not_written today r z)) in
    (A, refused_leaves_output w (λ n e. not_success (sym A ∙ e)))

-- Every other record is written as before.
pub records_with_an_id_stay : {r : List ℕ} (w : WriteCall r) → WriteRoom w → 0 < get_or r 1 0 → (u : List ℕ) → Puts w u ↔ (write_record_under (taking_id today) r ≡ success u)
records_with_an_id_stay {r} w room l u =
    let S = Changed.records_with_an_id_stay today r l in
    (λ P. sym S ∙ puts_written w P, λ e. written_puts w room (S ∙ e))

-- ── Codes that the end cuts are refused there ─────────────────────────
-- A unit is read exactly if it was before, with the same record and bits used.
pub cut_codes_were_refused : {u : List ℕ} (c : ReadCall u) → ReadRoom c → (r : List ℕ) (n : ℕ) → Reads c r n ↔ (unit_with_cut_codes today u ≡ accepts r n)
cut_codes_were_refused {u} c room r n =
    let A = Changed.cut_codes_were_refused today u r n in
    (λ R. A.0 (reads_accepted c R), λ e. accepted_reads c room (A.1 e))

-- Where the answer is another, the unit is refused with 35, and was refused before.
pub answers_moved_to_35 : {u : List ℕ} (c : ReadCall u) → ReadRoom c → (read_unit u ≡ unit_with_cut_codes today u → ⊥) → Refuses c code_past_end × ((k : ℕ) × (unit_with_cut_codes today u ≡ refuses k))
answers_moved_to_35 {u} c room h = let M = Changed.answers_moved_to_35 today u h in (refused_refuses c room M.0, M.1)

-- And where it is 35, it was a refusal with another number.
pub cut_was_not_35 : {u : List ℕ} (c : ReadCall u) → ReadRoom c → Refuses c code_past_end → (k : ℕ) × ((unit_with_cut_codes today u ≡ refuses k) × (k ≡ code_past_end → ⊥))
cut_was_not_35 {u} c room N =
    let e = refuses_refused c room N in
    let M = Changed.answers_moved_to_35 today u (λ q. Changed.cut_was_not_35 today u (sym q ∙ e)) in
    (M.1.0, (M.1.1, λ z. Changed.cut_was_not_35 today u (M.1.1 ∙ ap refuses z)))

-- A unit that is refused with another number was refused with the same.
pub other_refusals_stay : {u : List ℕ} (c : ReadCall u) → ReadRoom c → (k : ℕ) → (k ≡ code_past_end → ⊥) → Refuses c k → unit_with_cut_codes today u ≡ refuses k
other_refusals_stay {u} c room k h N = Changed.other_refusals_stay today u k h (refuses_refused c room N)

-- Refused with 35 as with 5 and 34, the work buffer begins with the RBSP and is otherwise as before; and the record is as before.
pub cut_leaves_work_as_5 : {u : List ℕ} (c : ReadCall u) → Refuses c code_past_end → Unpacked c
cut_leaves_work_as_5 c N = leaves_unpacked c N (omega arith)
