-- The reader's answer with the program's buffers, and the page that it makes.
use Rattle.std.specs.Prelude.{ℕ, ◌≤◌, ◌≡◌, List, cond, length, replicate, take, Result, Ok, Err}
use Rattle.std.proofs.Common.{sym, ap, ◌∙◌, arith}
use Rattle.std.proofs.lemmas.List.{length-replicate}
use Rattle.refusals.specs.Answer.Answer.{success, refusal}
use Rattle.refusals.specs.Number.{not_well_formed}
use Rattle.refusals.specs.Refusals.{number_of}
use Rattle.vps_definition.specs.Rules.{today}
use Rattle.vps_definition.specs.Reading.{read_unit, most_rbsp_bytes}
use Rattle.vps_definition.specs.Reading.Reading.{accepts}
use Rattle.vps_laws.proofs.Bound.{record_length}
use Rattle.vps_laws.proofs.Promises.{accepted_is_written}
use Rattle.vps_reader.specs.Parse.{parse_unit}
use Rattle.vps_reader.specs.Answers.{parsed_answer, refusal_of, Gives}
use Rattle.vps_reader.specs.Rooms.{unit_by_reading, accepted_reading, refused_reading}
use Rattle.vps_reader.specs.declared.parsed.Parsed.{Parsed}
use Rattle.vps_reader.specs.declared.parsed.NotParsed.{NotParsed}
use Rattle.layer_page.specs.Page.{page_of, layer_page}
use Rattle.vps_page.specs.Printed.{reading_page, unit_page}

-- the numbers of the longest record
abbrev pub record_numbers : ℕ
record_numbers = 535855

-- a buffer of zeros is as long as it was made: of any length, since a closed one would be counted out
pub zeros_long : (n : ℕ) → length (replicate {A = ℕ} n 0) ≡ n
zeros_long n = length-replicate n 0

zeros_fit : (n : ℕ) {m : ℕ} → m ≤ n → m ≤ length (replicate {A = ℕ} n 0)
zeros_fit n h = omega (arith, h, zeros_long n)

module _ (u : List ℕ) {answer : Result Parsed NotParsed} {work lent : List ℕ} (G : Gives (parse_unit u (replicate most_rbsp_bytes 0) (replicate record_numbers 0)) answer work lent) where
  -- an accepted unit's page is that of the record that was stored
  pub record_page : {p : Parsed} → answer ≡ Ok p → unit_page u ≡ layer_page (take p.numbers lent)
  unfolding unit_page reading_page layer_page
  record_page {p} e =
      let B = unit_by_reading (replicate most_rbsp_bytes 0) (replicate record_numbers 0) (zeros_fit most_rbsp_bytes (omega arith)) u in
      let r : List ℕ = take p.numbers lent in
      let is : read_unit u ≡ accepts r p.bits_used = accepted_reading (replicate record_numbers 0) (read_unit u) (sym (ap parsed_answer e) ∙ G.answered ∙ B.answered) (G.left ∙ B.left) in
      ap reading_page is ∙ sym (ap (λ b. cond b (success (page_of r)) (refusal not_well_formed)) (accepted_is_written u r p.bits_used is).0)

  -- a refused unit has none, and its number is the reading's
  pub no_page : {e : NotParsed} → answer ≡ Err e → unit_page u ≡ refusal (number_of (refusal_of e))
  unfolding unit_page reading_page
  no_page {e} said =
      let B = unit_by_reading (replicate most_rbsp_bytes 0) (replicate record_numbers 0) (zeros_fit most_rbsp_bytes (omega arith)) u in
      ap reading_page (refused_reading (replicate record_numbers 0) (read_unit u) e (λ r n i. zeros_fit record_numbers (record_length today u r n i)) (sym (ap parsed_answer said) ∙ G.answered ∙ B.answered))
