-- Calls of parse_vps and write_vps_nal, by their contracts: a call is what went in, what it answered and what it left.
use Rattle.std.specs.Prelude.{ℕ, ◌<◌, List, length, drop}
use Rattle.std.proofs.Math.Path.{◌≡◌, refl, ap}
use Rattle.std.proofs.Common.{sym, ◌∙◌, arith}
use Rattle.refusals.specs.Answer.{Answer}
use Rattle.refusals.specs.Answer.Answer.{refusal}
use Rattle.refusals.specs.Number.{work_too_short, not_well_formed, output_too_short}
use Rattle.vps_definition.specs.Rules.{today}
use Rattle.vps_definition.specs.Reading.{read_unit}
use Rattle.vps_definition.specs.Reading.Reading.{accepts}
use Rattle.vps_definition.specs.Writing.{write_record}
use Rattle.vps_laws.specs.Records.{of_record}
use Rattle.vps_reader.specs.Parse.{parse_number}
use Rattle.vps_writer.specs.Write.{written_answer, write_of}
use Rattle.vps_promises.specs.Calls.{ReadCall, said, Reads, Refuses, refused_leaves, late_fills_work, Unpacked, WriteCall, WriteRoom, behind_left, reads_filled, not_success, written_puts}

-- success is acceptance by the definition, with that record and those bits
pub reads_accepted : {u r : List ℕ} {n : ℕ} (c : ReadCall u) → Reads c r n → read_unit u ≡ accepts r n
reads_accepted c R = (reads_filled c R).is

-- and leaves what was behind the record
pub reads_leaves : {u r : List ℕ} {n : ℕ} (c : ReadCall u) → Reads c r n → (length c.rec_after ≡ length c.rec) × (drop (length r) c.rec_after ≡ drop (length r) c.rec)
reads_leaves {r = r} c R = let F = reads_filled c R in behind_left r c.rec F.fits F.left

-- a refusal with a number over 4 leaves the RBSP in the work buffer, and all else as it was
pub leaves_unpacked : {u : List ℕ} (c : ReadCall u) {k : ℕ} → Refuses c k → work_too_short < k → Unpacked c
leaves_unpacked c {k} N l =
    let W = late_fills_work c (λ e. omega (arith, e.1, N.numbered, l)) in
    (W.0, W.1, refused_leaves c (λ m n e. let z : said c ≡ 0 = ap parse_number e in omega (arith, z, N.numbered, N.some)))

-- a long enough output is not too short
pub output_enough : {r : List ℕ} (c : WriteCall r) → WriteRoom c → written_answer c.answer ≡ refusal output_too_short → ⊥
unfolding write_of
output_enough {r} c room e = of_record today (λ x. write_record r ≡ x → ⊥) (λ f. other (answer f)) (λ rbsp l f. not_success (sym e ∙ (written_puts c room f).answered)) r refl
  where
    answer : write_record r ≡ refusal not_well_formed → ◌≡◌ {A = Answer ℕ} (refusal output_too_short) (refusal not_well_formed)
    answer f = sym e ∙ c.gives.answered ∙ ap (write_of c.out) f

    other : ◌≡◌ {A = Answer ℕ} (refusal output_too_short) (refusal not_well_formed) → ⊥
    other q = let i : output_too_short ≡ not_well_formed = cc in omega (arith, i)
