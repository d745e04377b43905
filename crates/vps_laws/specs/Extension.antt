-- The extension: what is read up to the last one-bit, and what is written reads back.
use Rattle.std.specs.Prelude.{ℕ, zero, suc, ◌+◌, ◌*◌, ◌-◌, ◌≤◌, ◌<◌, ◌≡◌, List, [], ◌∷◌, ◌++◌, Bool, true, false, ◌||◌, leb, ltb, eqb, length, replicate}
use Rattle.std.proofs.Math.Path.{refl}
use Rattle.std.proofs.Common.{sym, ap, ◌∙◌, add-zero, arith, leb-true, eqb-true, le-leb, ltb-true, ltb-false, ne_eqb, length-append}
use Rattle.std.proofs.lemmas.List.{length-replicate}
use Rattle.lists.specs.Table.{and_both}
use Rattle.bits.specs.Bits.{bit_at, ones_from}
use Rattle.bits.specs.Reading.{more_data}
use Rattle.bits.specs.FieldLaws.{BitsAt, bit_lt, bits_right}
use Rattle.bits.specs.OneLaws.{LastOne, ones_past_end, ones_behind_zeros, last_inside, more_before_last, more_without_ones}
use Rattle.bits.specs.TrailingLaws.{zeros_field}
use Rattle.bits.specs.ByteLaws.{AllBits}
use Rattle.vps_definition.specs.Reading.{bits_at, data_bits, extension_bits}
use Rattle.vps_definition.specs.Writing.{all_flags, extension_good}

-- ── Bits at a place ───────────────────────────────────────────────────
pub bits_at_length : (s : List ℕ) (at n : ℕ) → length (bits_at s at n) ≡ n
unfolding bits_at
bits_at_length s at zero = refl
bits_at_length s at (suc n) = ap suc (bits_at_length s (at + 1) n)

-- so many bits, and one more
pub bits_at_last : (s : List ℕ) (at n : ℕ) → bits_at s at (suc n) ≡ bits_at s at n ++ (bit_at s (at + n) ∷ [])
unfolding bits_at
bits_at_last s at zero = rw (add-zero at) refl
bits_at_last s at (suc n) =
    let e : at + 1 + n ≡ at + suc n = omega arith in
    ap (λ (l : List ℕ). bit_at s at ∷ l) (bits_at_last s (at + 1) n ∙ ap (λ (k : ℕ). bits_at s (at + 1) n ++ (bit_at s k ∷ [])) e)

pub bits_at_stand : (s : List ℕ) (at : ℕ) (e : List ℕ) → BitsAt s at e → bits_at s at (length e) ≡ e
unfolding bits_at
bits_at_stand s at [] h = refl
bits_at_stand s at (b ∷ e) h = rw (h.0, bits_at_stand s (at + 1) e h.1) refl

pub bits_at_flags : (s : List ℕ) (at n : ℕ) → all_flags (bits_at s at n) ≡ true
unfolding bits_at all_flags
bits_at_flags s at zero = refl
bits_at_flags s at (suc n) = rw (le-leb (bit_at s at) 1 (omega (arith, bit_lt s at)), all_flags) (bits_at_flags s (at + 1) n)

flags_bits : (e : List ℕ) → all_flags e ≡ true → AllBits e
unfolding all_flags
flags_bits [] h = tt
flags_bits (b ∷ e) h = go (flags_bits e) (leb b 1) refl h
  where
    go : (all_flags e ≡ true → AllBits e) → (c : Bool) → leb b 1 ≡ c → elim c as (λ d. Bool) [ true ↦ all_flags e | false ↦ false ] ≡ true → AllBits (b ∷ e)
    go k true f g = (omega (arith, leb-true b 1 f), k g)
    go k false f g = absurd (let n : ◌≡◌ {A = ℕ} 0 1 = cc in omega arith)

-- ── What is read ──────────────────────────────────────────────────────
-- the bits up to the last one, none where that lies before the place
pub data_to_last : (s : List ℕ) (at n p : ℕ) → n ≡ 8 * length s - at → LastOne s p → data_bits s at n ≡ p - at
unfolding data_bits
data_to_last s at zero p e L = omega (arith, last_inside s p L)
data_to_last s at (suc n) p e L = rw (more_before_last s p at L, data_bits) (go (ltb at p) refl (data_to_last s (at + 1) n p (omega arith) L))
  where
    go : (b : Bool) → ltb at p ≡ b → data_bits s (at + 1) n ≡ p - (at + 1) → elim b as (λ d. ℕ) [ true ↦ suc (data_bits s (at + 1) n) | false ↦ 0 ] ≡ p - at
    go true f h = omega (arith, h, ltb-true at p f)
    go false f h = omega (arith, ltb-false at p f)

-- and none where no one is left
pub data_without_ones : (s : List ℕ) (at n : ℕ) → ones_from s at ≡ 0 → data_bits s at n ≡ 0
unfolding data_bits
data_without_ones s at zero h = refl
data_without_ones s at (suc n) h = rw (more_without_ones s at h, data_bits) refl

pub data_most : (s : List ℕ) (at n : ℕ) → data_bits s at n ≤ n
unfolding data_bits
data_most s at zero = omega arith
data_most s at (suc n) = go (data_most s (at + 1) n) (more_data s at)
  where
    go : data_bits s (at + 1) n ≤ n → (b : Bool) → elim b as (λ d. ℕ) [ true ↦ suc (data_bits s (at + 1) n) | false ↦ 0 ] ≤ suc n
    go h true = omega arith
    go h false = omega arith

pub extension_good_lem : (flag : ℕ) (s : List ℕ) (at : ℕ) → flag < 2 → extension_good flag (bits_at s at (extension_bits flag s at)) ≡ true
unfolding extension_good extension_bits
extension_good_lem zero s at h = unfold bits_at all_flags in refl
extension_good_lem (suc zero) s at h = rw (bits_at_flags s at (data_bits s at (8 * length s - at))) refl
extension_good_lem (suc (suc n)) s at h = absurd (omega arith)

pub good_bits : (flag : ℕ) (e : List ℕ) → extension_good flag e ≡ true → AllBits e
unfolding extension_good
good_bits flag e h = flags_bits e (and_both (all_flags e) (eqb flag 1 || eqb (length e) 0) h).0

-- ── What is written is read ───────────────────────────────────────────
-- bits, and then the last one, with zeros to the end
last_stands : (s : List ℕ) (at : ℕ) (e : List ℕ) (k : ℕ) → BitsAt s at (e ++ (1 ∷ replicate k 0)) → 8 * length s ≡ at + length (e ++ (1 ∷ replicate k 0)) → LastOne s (at + length e)
last_stands s at e k h g =
    let H = bits_right s at e (1 ∷ replicate k 0) h in
    let l : length {A = ℕ} (replicate k 0) ≡ k = length-replicate k 0 in
    record {
      one = H.0;
      none = ones_behind_zeros s (at + length e + 1) k (zeros_field s (at + length e + 1) k H.1) ∙ ones_past_end s (at + length e + 1 + k) (omega (arith, g, l, length-append e (1 ∷ replicate k 0)));
    }

pub extension_stands : (flag : ℕ) (s : List ℕ) (at : ℕ) (e : List ℕ) (k : ℕ) → BitsAt s at (e ++ (1 ∷ replicate k 0)) → extension_good flag e ≡ true
    → 8 * length s ≡ at + length (e ++ (1 ∷ replicate k 0)) → extension_bits flag s at ≡ length e
unfolding extension_bits extension_good
extension_stands flag s at e k h l g = go (eqb flag 0) refl (and_both (all_flags e) (eqb flag 1 || eqb (length e) 0) l).1
  where
    go : (c : Bool) → eqb flag 0 ≡ c → (eqb flag 1 || eqb (length e) 0) ≡ true → elim c as (λ d. ℕ) [ true ↦ 0 | false ↦ data_bits s at (8 * length s - at) ] ≡ length e
    go true f j =
        let n : eqb flag 1 ≡ false = ne_eqb flag 1 (λ o. omega (arith, eqb-true flag 0 f)) in
        let z : eqb (length e) 0 ≡ true = rw n at j in
        sym (eqb-true (length e) 0 z)
    go false f j = data_to_last s at (8 * length s - at) (at + length e) refl (last_stands s at e k h g) ∙ omega arith
