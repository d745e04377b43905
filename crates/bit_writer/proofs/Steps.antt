-- What the writer's functions lean on, over plain numbers and lists: a byte with another bit, a field bit by bit, and each answer of a step.
use Prim.Native.Nat.{ℕ, suc, ◌+◌, ◌*◌, ◌-◌, ◌/◌, ◌%◌, ◌^◌, ◌≤◌, ◌<◌}
use mathlib.Core.Bool.{Bool, true, false}
use mathlib.Core.List.{List, ◌∷◌}
use mathlib.Core.Path.{◌≡◌, refl, sym, ap, ◌∙◌, subst}
use native.Mathlib.Nat.{lt_of_not-le, one-mul, add-zero, div-lt_iff_lt-mul, le-div_iff_mul-le}
use native.Mathlib.Numerals.{add-one}
use native.Mathlib.Omega.{arith}
use borrow.Author.Tests.{le-leb, lt-leb, ne_eqb}
use lib.Dec.{leb, ltb, eqb, lit<}
use lib.ListN.{length}
use lib.Pow.{pow_pos, shl_exact, shl-shr}
use Rattle.std.proofs.Common.{Option, Some, None, Result, Ok, Err, ◌↔◌, is_some, IsSome, lt-ltb, le-ltb, ◌&&◌}
use Rattle.std.proofs.Math.Bool.{and-false}
use Rattle.std.proofs.lemmas.Bool.{false≢true}
use Rattle.refusals.specs.declared.refusal.Refusal.{Refusal}
use Rattle.refusals.specs.declared.refusal.Refusal.TheVariants.{NotWellFormed, OutputTooShort}
use Rattle.bits.specs.declared.CodeNumber.{CodeNumber}
use Rattle.bits.specs.Reading.{place_good}
use Rattle.bits.specs.Bits.{weight, to_boundary, bits_of, with_bit, set_bit, set_bits}
use Rattle.bits.specs.Writing.{write_bits, buffer_after, trailing_bits}
use Rattle.bits.specs.FieldLaws.{bits_length, bits_first, bits_over, bits_of_zero}
use Rattle.bits.specs.WriteLaws.{each_weight, length_set_bit}
use Rattle.bit_writer.specs.declared.BitWriter.{BitWriter}
use Rattle.bit_writer.specs.Answers.{Writes}

-- ── A byte with another bit ───────────────────────────────────────────
-- a one shifted to a place's weight
pub one_shifted : (at : ℕ) → 1 * 2 ^ (7 - at % 8) % 2 ^ 32 ≡ weight at
one_shifted at = each_weight (λ (m : ℕ). 1 * m % 2 ^ 32 ≡ m) refl refl refl refl refl refl refl refl (7 - at % 8) (omega arith)

-- a byte stays one, and no step of the sum goes below 0
pub record Fine (x b m : ℕ) : Type 0 where
  pub some : 0 < m
  pub most : m ≤ 128
  pub part : x / m % 2 * m ≤ x
  pub byte : with_bit x m b < 256

pub fine : (at : ℕ) {x b m : ℕ} → m ≡ weight at → x < 256 → b < 2 → Fine x b m
fine at {x} {b} e hx hb =
    rw e
    (each_weight (Fine x b) (omega arith) (omega arith) (omega arith) (omega arith) (omega arith) (omega arith) (omega arith) (omega arith) (7 - at % 8) (omega arith))

-- ── A field, bit by bit ───────────────────────────────────────────────
-- what is written, with the bits that are left, is the whole
pub record Halfway (out₀ : List ℕ) (at v width : ℕ) (out : List ℕ) (left p : ℕ) : Type 0 where
  pub below : left ≤ width
  pub place : p + left ≡ at + width
  pub long : length out ≡ length out₀
  pub whole : set_bits out p (bits_of left v) ≡ set_bits out₀ at (bits_of width v)

pub field_start : (out : List ℕ) (at v width : ℕ) {left p : ℕ} → left ≡ width → p ≡ at → Halfway out at v width out left p
field_start out at v width e f = rw (e, f) (record { below = omega arith; place = refl; long = refl; whole = refl })

first_bit : (w v : ℕ) → 0 < w → bits_of w v ≡ v / 2 ^ (w - 1) % 2 ∷ bits_of (w - 1) v
first_bit w v h =
    let e : w ≡ suc (w - 1) = omega arith in
    subst (λ (n : ℕ). bits_of n v ≡ v / 2 ^ (w - 1) % 2 ∷ bits_of (w - 1) v) (sym e) (bits_first (w - 1) v)

pub field_step : {out₀ out out' : List ℕ} {at v width left p left' p' : ℕ} → Halfway out₀ at v width out left p → 0 < left → out' ≡ set_bit out p (v / 2 ^ (left - 1) % 2)
    → left' ≡ left - 1 → p' ≡ p + 1 → Halfway out₀ at v width out' left' p'
unfolding set_bits
field_step {out₀} {out} {out'} {at} {v} {width} {left} {p} l h e f g = rw (f, g) (record {
  below = omega arith;
  place = omega arith;
  long = ap length e ∙ length_set_bit out p (v / 2 ^ (left - 1) % 2) ∙ l.long;
  whole = rw e (rw (first_bit left v h) at l.whole);
})

pub field_done : {out₀ out : List ℕ} {at v width left p : ℕ} → Halfway out₀ at v width out left p → left ≤ 0 → out ≡ set_bits out₀ at (bits_of width v)
unfolding set_bits bits_of
field_done {left = left} l h = let e : left ≡ 0 = omega arith in rw e at l.whole

-- ── The numbers of a step ─────────────────────────────────────────────
-- a value with no bit at w or above, and one with some
pub fits_width : (v w : ℕ) → v / 2 ^ w ≤ 0 → v < 2 ^ w
fits_width v w h = rw one-mul at ((div-lt_iff_lt-mul {k = 2 ^ w} {x = v} {y = 1} (pow_pos w)).0 (omega arith))

pub over_width : (v w : ℕ) → 0 < v / 2 ^ w → 2 ^ w ≤ v
over_width v w h = rw one-mul at ((le-div_iff_mul-le {k = 2 ^ w} {x = 1} {y = v} (pow_pos w)).0 h)

-- the stop bit and the zeros behind it are one field: a one, shifted by as many
pub trailing_is_field : (at : ℕ) → trailing_bits at ≡ bits_of (7 - at % 8 + 1) (1 * 2 ^ (7 - at % 8) % 2 ^ 64)
trailing_is_field at =
    let z : ℕ = 7 - at % 8 in
    let n : to_boundary (at + 1) ≡ z = omega arith in
    let s : 1 * 2 ^ z % 2 ^ 64 ≡ 1 * 2 ^ z = shl_exact 1 z 64 (lit< tt) (omega arith) in
    let o : 1 * 2 ^ z ≡ 2 ^ z + 0 = omega arith in
    sym (rw (s, add-one z, bits_first z (1 * 2 ^ z), shl-shr 1 z, o, bits_over z 0, bits_of_zero z, n) refl)

-- ── The answer of a step ──────────────────────────────────────────────
-- the refusal that `?` hands on is the one that came
pub handed_on : {T : Type 0} {x : Result T Refusal} {e e' : Refusal} → (y : Refusal) × (x ≡ Err y) × (y ≡ e) → e ≡ e' → x ≡ Err e'
handed_on p q = p.1 ∙ ap Err (p.2 ∙ q)

-- a place below the limit, and one from there on, whatever the other numbers
pub near : {at : ℕ} → at < 2 ^ 63 → place_good at ≡ true
near {at} h = lt-ltb at (2 ^ 63) h

pub far : {at : ℕ} → 2 ^ 63 ≤ at → place_good at ≡ false
far {at} h = le-ltb at (2 ^ 63) h

pub far_too : (t : Bool) {at : ℕ} → 2 ^ 63 ≤ at → (t && place_good at) ≡ false
far_too t h = rw (far h) (and-false t)

-- whether a value has a code
pub coded : {v : ℕ} {r : Option CodeNumber} {c : CodeNumber} → (IsSome r ↔ v < 4294967295) → r ≡ Some c → ltb v 4294967295 ≡ true
coded {v} s e = lt-ltb v 4294967295 (s.0 (ap is_some e))

pub uncoded : {v : ℕ} {r : Option CodeNumber} → (IsSome r ↔ v < 4294967295) → r ≡ None → ltb v 4294967295 ≡ false
uncoded {v} s e =
    let over : 4294967295 < suc v = lt_of_not-le (λ h. false≢true (sym (ap is_some e) ∙ s.1 h)) in
    le-ltb v 4294967295 (omega arith)

module _ {good : Bool} {b : List ℕ} (w : BitWriter) where
  -- numbers out of range: the refusal, and all as it was
  pub out_of_range : {x : Result (Unit {0}) Refusal} → good ≡ false → x ≡ Err NotWellFormed → Writes good b w x w
  unfolding write_bits buffer_after
  out_of_range e f = rw (e, f) (record { said = refl; stands = refl; left = refl; same_output = refl })

  -- numbers in range: what the writing of the same bits gives
  pub in_range : {b' : List ℕ} {r : Result (Unit {0}) Refusal} {w' : BitWriter} → good ≡ true → b ≡ b' → Writes true b' w r w' → Writes good b w r w'
  in_range e f h = rw (e, f) h

module _ (w : BitWriter) (v n : ℕ) where
  -- no bits: no room is asked, and nothing changes
  pub no_bits : n ≡ 0 → Writes true (bits_of n v) w (Ok tt) w
  unfolding write_bits buffer_after set_bits bits_of
  no_bits e = rw e (record { said = rw add-zero refl; stands = rw add-zero refl; left = refl; same_output = refl })

  module _ (some : 0 < n) where
    none_zero : eqb n 0 ≡ false
    none_zero = ne_eqb n 0 (λ e. omega arith)

    pub with_room : {w' : BitWriter} → w.bit_pos + n ≤ 8 * length w.out.now → w'.out.now ≡ set_bits w.out.now w.bit_pos (bits_of n v) → w'.bit_pos ≡ w.bit_pos + n → w'.out.ghost_name ≡ w.out.ghost_name
        → Writes true (bits_of n v) w (Ok tt) w'
    unfolding write_bits buffer_after
    with_room l e f g =
        let r : leb (w.bit_pos + n) (8 * length w.out.now) ≡ true = le-leb (w.bit_pos + n) (8 * length w.out.now) l in
        record { said = rw (bits_length n v, none_zero, r, f) refl; stands = rw (bits_length n v, none_zero, r) f; left = rw (bits_length n v, none_zero, r) e; same_output = g }

    pub without_room : 8 * length w.out.now < w.bit_pos + n → Writes true (bits_of n v) w (Err OutputTooShort) w
    unfolding write_bits buffer_after
    without_room l =
        let r : leb (w.bit_pos + n) (8 * length w.out.now) ≡ false = lt-leb (w.bit_pos + n) (8 * length w.out.now) l in
        record { said = rw (bits_length n v, none_zero, r) refl; stands = rw (bits_length n v, none_zero, r) refl; left = rw (bits_length n v, none_zero, r) refl; same_output = refl }
