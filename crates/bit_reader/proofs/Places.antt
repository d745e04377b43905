-- A step below the limit of places and one from there on, and what a reader says that moves or stays.
use Rattle.std.proofs.Common.{ℕ, ◌≡◌, ◌<◌, ◌≤◌, ◌^◌, true, false, Result, Ok, Err, refl, ap, ◌∙◌, lt-ltb, le-ltb}
use Rattle.refusals.specs.Answer.{Answer}
use Rattle.refusals.specs.Answer.Answer.{success, refusal}
use Rattle.refusals.specs.Refusals.{number_of, answer_of}
use Rattle.refusals.specs.declared.refusal.Refusal.{Refusal}
use Rattle.bits.specs.Code.{Taken}
use Rattle.bits.specs.Code.Taken.{taken, refused}
use Rattle.bits.specs.Reading.{place_good}
use Rattle.bit_reader.specs.Answers.{Reads, Moves, stands_at}
use Rattle.bit_reader.specs.declared.BitReader.{BitReader}

pub near : {at : ℕ} → at < 2 ^ 63 → place_good at ≡ true
near {at} h = lt-ltb at (2 ^ 63) h

pub far : {at : ℕ} → 2 ^ 63 ≤ at → place_good at ≡ false
far {at} h = le-ltb at (2 ^ 63) h

-- the refusal that `?` hands on is the one that came
pub handed_on : {T : Type 0} {x : Result T Refusal} {e e' : Refusal} → (y : Refusal) × (x ≡ Err y) × (y ≡ e) → e ≡ e' → x ≡ Err e'
handed_on p q = p.1 ∙ ap Err (p.2 ∙ q)

pub asks_not : {A : Type 0} {given : Answer A} {x : Result A Refusal} {e : Refusal} → given ≡ refusal (number_of e) → x ≡ Err e → answer_of x ≡ given
asks_not e f = rw (e, f)

module _ (r : BitReader) where
  pub reads_to : {given : Taken} {v next : ℕ} → given ≡ taken v next → Reads given r (Ok v) (stands_at r next)
  reads_to e = rw e (record { said = refl; stands = refl })

  pub reads_not : {given : Taken} {x : Result ℕ Refusal} {e : Refusal} → given ≡ refused (number_of e) → x ≡ Err e → Reads given r x r
  reads_not e f = rw (e, f) (record { said = refl; stands = refl })

  pub moves_to : {given : Answer ℕ} {next : ℕ} → given ≡ success next → Moves given r (Ok tt) (stands_at r next)
  moves_to e = rw e (record { said = refl; stands = refl })

  pub moves_not : {given : Answer ℕ} {x : Result (Unit {0}) Refusal} {e : Refusal} → given ≡ refusal (number_of e) → x ≡ Err e → Moves given r x r
  moves_not e f = rw (e, f) (record { said = refl; stands = refl })
