-- What each step of the bit reader says, and where the reader stands then: behind what was read, and at a refusal where it stood.
use Rattle.std.specs.Prelude.{ℕ, ◌≡◌, ◌≤◌, ◌^◌, Result, Ok, Err, MatchResult}
use Rattle.refusals.specs.Answer.{Answer}
use Rattle.refusals.specs.Answer.Answer.{success, refusal}
use Rattle.refusals.specs.Refusals.{number_of}
use Rattle.refusals.specs.declared.refusal.Refusal.{Refusal}
use Rattle.refusals.specs.declared.refusal.Refusal.TheVariants.{NotWellFormed}
use Rattle.bits.specs.Code.{Taken}
use Rattle.bits.specs.Code.Taken.{taken, refused}
use Rattle.bit_reader.specs.declared.BitReader.{BitReader}
use Rattle.bit_reader.specs.declared.Place.{Place}

-- the place of a reader with its bytes, or a refusal from 2^63 on
abbrev pub IsPlaceOf : BitReader → Result Place Refusal → Type 0
IsPlaceOf r x = MatchResult x (λ p. (p.bytes ≡ r.bytes) × (p.at ≡ r.bit_pos)) (λ e. (e ≡ NotWellFormed) × (2 ^ 63 ≤ r.bit_pos))

-- a code's number and the place behind it
abbrev pub code_answer : Result (ℕ × ℕ) Refusal → Taken
code_answer (Ok p) = taken p.0 p.1
code_answer (Err e) = refused (number_of e)

-- a value, and the place where the reader stands then
abbrev pub read_answer : Result ℕ Refusal → ℕ → Taken
read_answer (Ok v) next = taken v next
read_answer (Err e) next = refused (number_of e)

-- a step without a value, and the place where the reader stands then
abbrev pub moved_answer : Result (Unit {0}) Refusal → ℕ → Answer ℕ
moved_answer (Ok u) next = success next
moved_answer (Err e) next = refusal (number_of e)

-- the place after a bit, a field or a code
abbrev pub taken_place : Taken → ℕ → ℕ
taken_place (taken v p) at = p
taken_place (refused n) at = at

-- the place after a step without a value
abbrev pub moved_place : Answer ℕ → ℕ → ℕ
moved_place (success p) at = p
moved_place (refusal n) at = at

-- a reader over the same bytes, at another place
abbrev pub stands_at : BitReader → ℕ → BitReader
stands_at r p = record { bytes = r.bytes; bit_pos = p }

-- a step that reads what a definition gives: what it says, and the reader then
pub record Reads (given : Taken) (before : BitReader) (r : Result ℕ Refusal) (after : BitReader) : Type 0 where
  pub said : read_answer r after.bit_pos ≡ given
  pub stands : after ≡ stands_at before (taken_place given before.bit_pos)

-- the same of a step without a value
pub record Moves (given : Answer ℕ) (before : BitReader) (r : Result (Unit {0}) Refusal) (after : BitReader) : Type 0 where
  pub said : moved_answer r after.bit_pos ≡ given
  pub stands : after ≡ stands_at before (moved_place given before.bit_pos)
