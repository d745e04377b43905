-- The number and the values of each answer of the reader, and what it owes for an RBSP and for a unit.
use Rattle.std.specs.Prelude.{ℕ, ◌+◌, ◌≤◌, ◌<◌, ◌≡◌, List, Result, Ok, Err}
use Rattle.std.proofs.Math.Path.{refl}
use Rattle.std.proofs.Common.{sym, ap, ◌∙◌, arith}
use borrow.Author.Tests.{le-leb, lt-leb}
use Rattle.std.proofs.Math.Dec.{leb}
use Rattle.std.proofs.Math.ListN.{length}
use Rattle.std.proofs.lemmas.List.Edits.{sets}
use Rattle.std.proofs.Math.Bool.{true, false}
use Rattle.lists.specs.Stored.{stored_whole}
use Rattle.vps_definition.specs.Reading.{Reading, read_limited}
use Rattle.vps_definition.specs.Reading.Reading.{refuses}
use Rattle.read_vps.specs.declared.Table as Code
use Rattle.vps_reader.specs.Parse.{Parse, parse_of, record_after}
use Rattle.vps_reader.specs.Parse as Parse
use Rattle.vps_reader.specs.Parse.Parse.{accepted, too_short, refused}
use Rattle.vps_reader.specs.Measures.{Found, record_in, found_accepts, found_length}
use Rattle.refusals.specs.declared.refusal.Refusal as Refusal
use Rattle.refusals.specs.Refusals.{number_of}
use Rattle.vps_reader.specs.declared.parsed.Parsed.{Parsed}
use Rattle.vps_reader.specs.declared.parsed.NotParsed.{NotParsed}
use Rattle.vps_reader.specs.declared.parsed.NotParsed.TheVariants.{RecordTooShort, Refused}

abbrev pub refusal_of : NotParsed → Refusal.Refusal
refusal_of (RecordTooShort needed) = Refusal.TheVariants.RecordTooShort
refusal_of (Refused e) = e

abbrev pub parsed_answer : Result Parsed NotParsed → Parse
parsed_answer (Ok x) = accepted x.numbers x.bits_used
parsed_answer (Err (RecordTooShort needed)) = too_short needed
parsed_answer (Err (Refused e)) = refused (number_of e)

-- the answer and the record that a reading makes of a lent record
pub record Answers (lent : List ℕ) (x : Reading) (r : Result Parsed NotParsed) (after : List ℕ) : Type 0 where
  pub answered : parsed_answer r ≡ parse_of lent x
  pub left : after ≡ record_after lent x

-- the answer, the work buffer and the record
pub record Gives (x : Parse.Parsed) (r : Result Parsed NotParsed) (work lent : List ℕ) : Type 0 where
  pub answered : parsed_answer r ≡ x.answer
  pub worked : work ≡ x.work
  pub left : lent ≡ x.vps_record

-- ── What the first pass found, answered ───────────────────────────────
module _ {s : List ℕ} {w : Code.Table} {count bits : ℕ} (F : Found s w count bits) (lent : List ℕ) where
  answers_as : {x : Reading} {r : Result Parsed NotParsed} {after : List ℕ} → x ≡ read_limited s → Answers lent x r after → Answers lent (read_limited s) r after
  answers_as {r = r} {after = after} e A = record { answered = A.answered ∙ ap (parse_of lent) e; left = A.left ∙ ap (record_after lent) e }

  -- so many numbers are needed
  module _ {needed : ℕ} (n : needed ≡ w.n + count + 9) where
    long : length (record_in F) ≡ needed
    long = found_length F ∙ sym n

    pub answers_short : length lent < needed → Answers lent (read_limited s) (Err (RecordTooShort needed)) lent
    unfolding parse_of record_after
    answers_short l =
        let b : leb (length (record_in F)) (length lent) ≡ false = lt-leb (length (record_in F)) (length lent) (omega (arith, long, l)) in
        answers_as (sym (found_accepts F)) (record { answered = rw b (ap too_short (sym long)); left = rw b refl })

    pub answers_filled : {after : List ℕ} → needed ≤ length lent → after ≡ sets lent 0 (record_in F) → Answers lent (read_limited s) (Ok (record { numbers = needed; bits_used = bits })) after
    unfolding parse_of record_after
    answers_filled l e =
        let h : length (record_in F) ≤ length lent = omega (arith, long, l) in
        let b : leb (length (record_in F)) (length lent) ≡ true = le-leb (length (record_in F)) (length lent) h in
        answers_as (sym (found_accepts F)) (record { answered = rw b (ap (λ (n : ℕ). accepted n bits) (sym long)); left = rw b (e ∙ stored_whole lent (record_in F) h) })

pub answers_refused : (s : List ℕ) {e : Refusal.Refusal} (lent : List ℕ) → read_limited s ≡ refuses (number_of e) → Answers lent (read_limited s) (Err (Refused e)) lent
unfolding parse_of record_after
answers_refused s lent e = record { answered = ap (parse_of lent) (sym e); left = ap (record_after lent) (sym e) }
