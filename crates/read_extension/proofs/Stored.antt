-- Bits of bytes, and storing them.
use Rattle.std.specs.Prelude.{ℕ, zero, suc, ◌+◌, ◌/◌, ◌%◌, ◌≡◌, refl, List, [], ◌∷◌, ◌++◌, length}
use Rattle.std.proofs.Common.{sym, ap, ◌∙◌, add-zero, zero-add, arith, drop_of_length-le}
use Rattle.std.proofs.lemmas.List.{append-nil}
use Rattle.std.proofs.lemmas.List.Edits.{sets}
use Rattle.lists.specs.Stored.{stored_behind, stored_whole}
use Rattle.bits.specs.Bits.{bit_at, field_at, bits_of}
use Rattle.bits.specs.FieldLaws.{bits_length, bits_field}
use Rattle.vps_definition.specs.Reading.{bits_at}
use Rattle.vps_laws.specs.Extension.{bits_at_length, bits_at_stand}

-- ── Bits of a field ───────────────────────────────────────────────────
-- the w bits from a place on are those of the field there
pub bits_at_field : (s : List ℕ) (at w : ℕ) → bits_of w (field_at s at w) ≡ bits_at s at w
bits_at_field s at w = sym (bits_at_stand s at (bits_of w (field_at s at w)) (bits_field s at w)) ∙ ap (bits_at s at) (bits_length w (field_at s at w))

-- those of a byte
pub bits_of_byte : (v : ℕ) → v / 128 % 2 ∷ v / 64 % 2 ∷ v / 32 % 2 ∷ v / 16 % 2 ∷ v / 8 % 2 ∷ v / 4 % 2 ∷ v / 2 % 2 ∷ v % 2 ∷ [] ≡ bits_of 8 v
unfolding bits_of
bits_of_byte v =
    let d₄ : v / 2 / 2 ≡ v / 4 = omega arith in
    let d₈ : v / 4 / 2 ≡ v / 8 = omega arith in
    let d₁₆ : v / 8 / 2 ≡ v / 16 = omega arith in
    let d₃₂ : v / 16 / 2 ≡ v / 32 = omega arith in
    let d₆₄ : v / 32 / 2 ≡ v / 64 = omega arith in
    let d₁₂₈ : v / 64 / 2 ≡ v / 128 = omega arith in
    rw (d₄, d₈, d₁₆, d₃₂, d₆₄, d₁₂₈) refl

-- so many bits, and others behind them
pub bits_at_append : (s : List ℕ) (at m n : ℕ) → bits_at s at m ++ bits_at s (at + m) n ≡ bits_at s at (m + n)
unfolding bits_at
bits_at_append s at zero n = rw (add-zero at, zero-add n) refl
bits_at_append s at (suc m) n =
    let e : at + suc m ≡ at + 1 + m = omega arith in
    let f : suc (m + n) ≡ suc m + n = omega arith in
    ap (λ (l : List ℕ). bit_at s at ∷ l) (ap (λ (k : ℕ). bits_at s (at + 1) m ++ bits_at s k n) e ∙ bits_at_append s (at + 1) m n) ∙ ap (bits_at s at) f

-- ── Storing ───────────────────────────────────────────────────────────
-- bits at the beginning of a list, and others behind them
pub stored_more : (x s : List ℕ) (at m n : ℕ) → sets (sets x 0 (bits_at s at m)) m (bits_at s (at + m) n) ≡ sets x 0 (bits_at s at (m + n))
stored_more x s at m n = stored_behind x (bits_at s at m) (bits_at s (at + m) n) (sym (bits_at_length s at m)) ∙ ap (sets x 0) (bits_at_append s at m n)

-- as many as it is long are the whole list
pub stored_all : (x s : List ℕ) (at : ℕ) {n : ℕ} → n ≡ length x → sets x 0 (bits_at s at n) ≡ bits_at s at (length x)
stored_all x s at e =
    let bits : List ℕ = bits_at s at (length x) in
    let l : length bits ≡ length x = bits_at_length s at (length x) in
    ap (λ (k : ℕ). sets x 0 (bits_at s at k)) e ∙ stored_whole x bits (omega (arith, l)) ∙ ap (λ (y : List ℕ). bits ++ y) (drop_of_length-le x (omega (arith, l))) ∙ append-nil bits
