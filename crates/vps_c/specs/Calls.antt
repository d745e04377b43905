-- Answers as numbers: what a call gives, and what it leaves where a reference points.
use Rattle.std.specs.Prelude.{ℕ, ◌≡◌, refl, List, get_or, Result, Ok, Err}
use Rattle.std.proofs.Common.{sym, ap, ◌∙◌}
use Rattle.refusals.specs.Answer.{Answer}
use Rattle.refusals.specs.Answer.Answer.{success, refusal}
use Rattle.refusals.specs.Number.{record_too_short}
use Rattle.vps_reader.specs.Parse.{Parse, parse_number, parse_values}
use Rattle.vps_reader.specs.Parse as Reader
use Rattle.vps_reader.specs.Answers.{parsed_answer, Gives}
use Rattle.refusals.specs.declared.refusal.Refusal.{Refusal}
use Rattle.refusals.specs.Refusals.{number_of}
use Rattle.vps_reader.specs.declared.parsed.Parsed.{Parsed}
use Rattle.vps_reader.specs.declared.parsed.NotParsed.{NotParsed}
use Rattle.vps_reader.specs.declared.parsed.NotParsed.TheVariants.{RecordTooShort, Refused}

-- ── The reader's answers ──────────────────────────────────────────────
-- what the length is then: the answer's first value, the record's length or the one that it needs; or the one before
abbrev pub length_after : Parse → (before : ℕ) → ℕ
length_after x before = get_or (parse_values x) 0 before

-- and the bits used: its second value, or those before
abbrev pub bits_after : Parse → (before : ℕ) → ℕ
bits_after x before = get_or (parse_values x) 1 before

-- the number, the work buffer, the record, the length and the bits used
pub record Parses (x : Reader.Parsed) (before-length before-bits k : ℕ) (work lent : List ℕ) (length bits : ℕ) : Type 0 where
  pub numbered : k ≡ parse_number x.answer
  pub worked : work ≡ x.work
  pub left : lent ≡ x.vps_record
  pub long : length ≡ length_after x.answer before-length
  pub used : bits ≡ bits_after x.answer before-bits

module _ {x : Reader.Parsed} {r : Result Parsed NotParsed} {work lent : List ℕ} (G : Gives x r work lent) {before-length before-bits : ℕ} where
  parses_as : {k length bits : ℕ} {a : Parse} → parsed_answer r ≡ a → k ≡ parse_number a → length ≡ length_after a before-length → bits ≡ bits_after a before-bits
      → Parses x before-length before-bits k work lent length bits
  parses_as {a = a} e p q b =
      let s : a ≡ x.answer = sym e ∙ G.answered in
      record {
        numbered = p ∙ ap parse_number s;
        worked = G.worked;
        left = G.left;
        long = q ∙ ap (λ (y : Parse). length_after y before-length) s;
        used = b ∙ ap (λ (y : Parse). bits_after y before-bits) s;
      }

  pub parses_accepted : {p : Parsed} → r ≡ Ok p → Parses x before-length before-bits 0 work lent p.numbers p.bits_used
  parses_accepted e = parses_as (ap parsed_answer e) refl refl refl

  pub parses_too_short : {k needed : ℕ} → r ≡ Err (RecordTooShort needed) → k ≡ record_too_short → Parses x before-length before-bits k work lent needed before-bits
  parses_too_short e n = parses_as (ap parsed_answer e) n refl refl

  pub parses_refused : {k : ℕ} {e : Refusal} → r ≡ Err (Refused e) → k ≡ number_of e → Parses x before-length before-bits k work lent before-length before-bits
  parses_refused e n = parses_as (ap parsed_answer e) n refl refl

-- ── Answers with one number ───────────────────────────────────────────
abbrev pub answer_number : {A : Type 0} → Answer A → ℕ
answer_number (success a) = 0
answer_number (refusal k) = k

-- what success stores; a refusal leaves what was there before
abbrev pub stored_after : Answer ℕ → (before : ℕ) → ℕ
stored_after (success n) before = n
stored_after (refusal k) before = before

pub record Tells (x : Answer ℕ) (before k after : ℕ) : Type 0 where
  pub numbered : k ≡ answer_number x
  pub stored : after ≡ stored_after x before

pub tells_success : {x : Answer ℕ} {before n : ℕ} → success n ≡ x → Tells x before 0 n
tells_success {before = before} e = record { numbered = ap answer_number e; stored = ap (λ (y : Answer ℕ). stored_after y before) e }

pub tells_refusal : {x : Answer ℕ} {before k : ℕ} → refusal k ≡ x → Tells x before k before
tells_refusal {before = before} e = record { numbered = ap answer_number e; stored = ap (λ (y : Answer ℕ). stored_after y before) e }

-- what an answer's equal says
pub tells_same : {x y : Answer ℕ} {before k after : ℕ} → x ≡ y → Tells x before k after → Tells y before k after
tells_same {before = before} e t = record { numbered = t.numbered ∙ ap answer_number e; stored = t.stored ∙ ap (λ (z : Answer ℕ). stored_after z before) e }
