-- What each step of the bit writer says, where the writer stands then, and what its output holds: a refusal leaves both as they were.
use Rattle.std.specs.Prelude.{ℕ, Bool, List, ◌≡◌, Result, Ok, Err}
use Rattle.refusals.specs.Answer.{Answer}
use Rattle.refusals.specs.Answer.Answer.{success, refusal}
use Rattle.refusals.specs.Refusals.{number_of}
use Rattle.refusals.specs.declared.refusal.Refusal.{Refusal}
use Rattle.bits.specs.Writing.{write_bits, buffer_after}
use Rattle.bit_writer.specs.declared.BitWriter.{BitWriter}

-- a step, and the place where the writer stands then
abbrev pub wrote_answer : Result (Unit {0}) Refusal → ℕ → Answer ℕ
wrote_answer (Ok u) next = success next
wrote_answer (Err e) next = refusal (number_of e)

-- behind what was written; a refusal leaves the place as it was
abbrev pub step_place : Answer ℕ → ℕ → ℕ
step_place (success p) at = p
step_place (refusal n) at = at

-- a step that writes the bits b, where `good` says that its numbers are in range: what it says, the place and the output then; the output is the one that was lent
pub record Writes (good : Bool) (b : List ℕ) (before : BitWriter) (r : Result (Unit {0}) Refusal) (after : BitWriter) : Type 0 where
  pub said : wrote_answer r after.bit_pos ≡ write_bits good before.out.now before.bit_pos b
  pub stands : after.bit_pos ≡ step_place (write_bits good before.out.now before.bit_pos b) before.bit_pos
  pub left : after.out.now ≡ buffer_after good before.out.now before.bit_pos b
  pub same_output : after.out.ghost_name ≡ before.out.ghost_name
