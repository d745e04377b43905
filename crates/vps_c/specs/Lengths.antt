-- Lengths of buffers that are enough for every unit, every record, every layer page and every sentence, as callers in other languages name them. For the work buffer it is 65,535 bytes, by refusal 3.
use Rattle.std.specs.Prelude.{ℕ, ◌≤◌, ◌≡◌, List, true, length}
use Rattle.std.proofs.Common.{subst, arith}
use Rattle.refusals.specs.Answer.{Answer}
use Rattle.refusals.specs.Answer.Answer.{success, refusal}
use Rattle.stuffing.specs.Laws.{stuff_length}
use Rattle.sentences.specs.Sentences.{sentence_of}
use Rattle.sentences.proofs.Laws.{sentence_most}
use Rattle.vps_definition.specs.Rules.{today}
use Rattle.vps_definition.specs.Reading.{read_unit}
use Rattle.vps_definition.specs.Reading.Reading.{accepts}
use Rattle.vps_definition.specs.Writing.{unit_of, write_record, well_formed}
use Rattle.vps_laws.proofs.Bound.{record_length}
use Rattle.vps_laws.specs.Records.{of_record}
use Rattle.layer_page.specs.Page.{page_of}
use Rattle.layer_page.specs.Answers.{page_most}

pub record_enough : (u r : List ℕ) (n : ℕ) → read_unit u ≡ accepts r n → length r ≤ 535855
record_enough = record_length today

-- a header, and an RBSP with half as much again
abbrev Short : Answer (List ℕ) → Type 0
Short (success u) = length u ≤ 98304
Short (refusal k) = Unit {0}

record_short : (r : List ℕ) → Short (write_record r)
unfolding unit_of
record_short r = of_record today Short tt (λ rbsp l. omega (arith, stuff_length rbsp, l)) r

pub unit_enough : (r u : List ℕ) → write_record r ≡ success u → length u ≤ 98304
unit_enough r u e = subst Short e (record_short r)

-- 257 lines of 72 bytes
pub page_enough : (r : List ℕ) → well_formed r ≡ true → length (page_of r) ≤ 18504
page_enough = page_most

pub sentence_enough : (n : ℕ) → length (sentence_of n) ≤ 47
sentence_enough = sentence_most
