-- The reader's answer with the program's buffers, and the text that it makes.
use Rattle.std.specs.Prelude.{ℕ, ◌≤◌, ◌≡◌, List, Bool, true, false, cond, length, replicate, take, Result, Ok, Err}
use Rattle.std.proofs.Common.{sym, ap, ◌∙◌, arith}
use Rattle.std.proofs.lemmas.List.{length-replicate}
use Rattle.refusals.specs.Refusals.{number_of}
use Rattle.sentences.specs.Refused.{refused_text}
use Rattle.vps_definition.specs.Rules.{today}
use Rattle.vps_definition.specs.Reading.{read_unit, most_rbsp_bytes}
use Rattle.vps_definition.specs.Reading.Reading.{accepts}
use Rattle.vps_laws.proofs.Bound.{record_length}
use Rattle.vps_reader.specs.Parse.{parse_unit}
use Rattle.vps_reader.specs.Answers.{parsed_answer, refusal_of, Gives}
use Rattle.vps_reader.specs.Rooms.{unit_by_reading, accepted_reading, refused_reading}
use Rattle.vps_reader.specs.declared.parsed.Parsed.{Parsed}
use Rattle.vps_reader.specs.declared.parsed.NotParsed.{NotParsed}
use Rattle.record_timing.specs.Timing.{has_timing, lacks}
use Rattle.vps_rates.specs.Printed.{table_text, without_table, record_text, reading_text, rates_text}

-- ── Of a record ───────────────────────────────────────────────────────
module _ (r : List ℕ) where
  pub table_of : has_timing r ≡ true → table_text r ≡ record_text r
  unfolding record_text
  table_of e = sym (ap (λ (b : Bool). cond b (table_text r) (without_table (lacks r))) e)

  pub no_table : has_timing r ≡ false → without_table (lacks r) ≡ record_text r
  unfolding record_text
  no_table e = sym (ap (λ (b : Bool). cond b (table_text r) (without_table (lacks r))) e)

-- ── Of a unit ─────────────────────────────────────────────────────────
-- the numbers of the longest record
abbrev pub record_numbers : ℕ
record_numbers = 535855

-- a buffer of zeros is as long as it was made: of any length, since a closed one would be counted out
pub zeros_long : (n : ℕ) → length (replicate {A = ℕ} n 0) ≡ n
zeros_long n = length-replicate n 0

zeros_fit : (n : ℕ) {m : ℕ} → m ≤ n → m ≤ length (replicate {A = ℕ} n 0)
zeros_fit n h = omega (arith, h, zeros_long n)

module _ (u : List ℕ) {answer : Result Parsed NotParsed} {work lent : List ℕ} (G : Gives (parse_unit u (replicate most_rbsp_bytes 0) (replicate record_numbers 0)) answer work lent) where
  -- an accepted unit's text is that of the record that was stored
  pub text_of_record : {p : Parsed} → answer ≡ Ok p → record_text (take p.numbers lent) ≡ rates_text u
  unfolding rates_text reading_text
  text_of_record {p} e =
      let B = unit_by_reading (replicate most_rbsp_bytes 0) (replicate record_numbers 0) (zeros_fit most_rbsp_bytes (omega arith)) u in
      let is : read_unit u ≡ accepts (take p.numbers lent) p.bits_used = accepted_reading (replicate record_numbers 0) (read_unit u) (sym (ap parsed_answer e) ∙ G.answered ∙ B.answered) (G.left ∙ B.left) in
      sym (ap reading_text is)

  -- a refused unit's is the number of the reading
  pub text_of_refusal : {e : NotParsed} → answer ≡ Err e → refused_text (number_of (refusal_of e)) ≡ rates_text u
  unfolding rates_text reading_text
  text_of_refusal {e} said =
      let B = unit_by_reading (replicate most_rbsp_bytes 0) (replicate record_numbers 0) (zeros_fit most_rbsp_bytes (omega arith)) u in
      sym (ap reading_text (refused_reading (replicate record_numbers 0) (read_unit u) e (λ r n i. zeros_fit record_numbers (record_length today u r n i)) (sym (ap parsed_answer said) ∙ G.answered ∙ B.answered)))
