-- The search from the end, byte by byte: what it has passed are zeros.
use Rattle.std.specs.Prelude.{ℕ, zero, suc, ◌+◌, ◌*◌, ◌-◌, ◌/◌, ◌%◌, ◌^◌, ◌≤◌, ◌<◌, ◌≡◌, refl, List, [], ◌∷◌, ◌++◌, length, get_or}
use Rattle.std.proofs.Common.{sym, ap, subst, ◌∙◌, append_assoc, arith, Option, None, Some}
use Rattle.std.proofs.lemmas.List.{append-nil, get_or_at}
use Rattle.std.proofs.lemmas.Nat.Bits.{bit_at-trailing_zeros}
use Rattle.std.specs.List.{IsLastAndRest}
use Rattle.std.specs.Int.{w8, trailing_zeros}
use Rattle.std.specs.Int as Int
use Rattle.bits.specs.Bits.{bit_at, field_at, ones_from}
use Rattle.bits.specs.FieldLaws.{bit_of_byte, field_byte}
use Rattle.bits.specs.OneLaws.{ones_past_end, ones_here, ones_fall, ones_behind_zeros}
use Rattle.bits.specs.LastOne.{last_one_of, Found, is_before_last}
use Rattle.bits.proofs.LastOne.{last_one_found, found_once, more_by_last}
use Rattle.bits.specs.Reading.{more_data}
use Rattle.vps_definition.specs.Reading.{data_bits}
use Rattle.vps_laws.specs.Extension.{data_to_last, data_without_ones}

-- what is left are the first bytes, behind which there is no one-bit
pub record Sought (s rest : List ℕ) : Type 0 where
  pub behind : List ℕ
  pub whole : s ≡ rest ++ behind
  pub none : ones_from s (8 * length rest) ≡ 0

pub sought_all : (s : List ℕ) → Sought s s
sought_all s = record { behind = []; whole = sym (append-nil s); none = ones_past_end s (8 * length s) (omega arith) }

-- nothing is left
pub sought_none : {s rest : List ℕ} → Sought s rest → length rest ≡ 0 → None ≡ last_one_of s
sought_none {s} {rest} S e =
    let z : 8 * length rest ≡ 0 = omega arith in
    found_once s None (last_one_of s) (ap (ones_from s) (sym z) ∙ S.none) (last_one_found s)

-- a byte more
module _ {s rest : List ℕ} (front : List ℕ) (b : ℕ) (S : Sought s rest) (L : IsLastAndRest rest b front) where
  whole : s ≡ front ++ (b ∷ S.behind)
  whole = S.whole ∙ ap (λ (l : List ℕ). l ++ S.behind) L.0 ∙ append_assoc front (b ∷ []) S.behind

  byte : get_or s (length front) 0 ≡ b
  byte = ap (λ (l : List ℕ). get_or l (length front) 0) whole ∙ get_or_at front b S.behind 0 (length front) refl

  none : ones_from s (8 * length front + 8) ≡ 0
  none = let e : 8 * length front + 8 ≡ 8 * length rest = omega (arith, L.1) in ap (ones_from s) e ∙ S.none

  -- that is 0
  pub sought_zero : b ≡ 0 → Sought s front
  sought_zero z =
      let f : field_at s (8 * length front) 8 ≡ 0 = field_byte s (length front) (omega (arith, byte, z)) ∙ byte ∙ z in
      record { behind = b ∷ S.behind; whole = whole; none = ones_behind_zeros s (8 * length front) 8 f ∙ none }

  -- that isn't: its lowest one-bit is the last
  module _ (h : b ≡ 0 → ⊥) (fits : (i : ℕ) → get_or s i 0 < 256) where
    lowest : (trailing_zeros w8 b < 8) × (Int.bit_at b (trailing_zeros w8 b) ≡ 1) × ((n : ℕ) → n < trailing_zeros w8 b → Int.bit_at b n ≡ 0)
    lowest = bit_at-trailing_zeros w8 b (omega (arith, h)) (omega (arith, byte, fits (length front)))

    bit_here : (n : ℕ) → n < 8 → bit_at s (8 * length front + (7 - n)) ≡ b / 2 ^ n % 2
    bit_here n m =
        let e : 7 - (7 - n) ≡ n = omega arith in
        bit_of_byte s (length front) (7 - n) (omega arith) ∙ ap (λ (k : ℕ). get_or s (length front) 0 / 2 ^ k % 2) e ∙ ap (λ (x : ℕ). x / 2 ^ n % 2) byte

    lower : (n : ℕ) → n ≤ trailing_zeros w8 b → ones_from s (8 * length front + (8 - n)) ≡ 0
    lower zero m = none
    lower (suc n) m =
        let k : n < trailing_zeros w8 b = omega arith in
        let t : trailing_zeros w8 b < 8 = lowest.0 in
        let e : 8 - suc n ≡ 7 - n = omega arith in
        let f : 8 * length front + (7 - n) + 1 ≡ 8 * length front + (8 - n) = omega (arith, t, k) in
        let o : ones_from s (8 * length front + (7 - n) + 1) ≡ 0 = ap (ones_from s) f ∙ lower n (omega arith) in
        let z : bit_at s (8 * length front + (7 - n)) ≡ 0 = bit_here n (omega (arith, t, k)) ∙ lowest.2 n k in
        rw e (omega (arith, ones_here s (8 * length front + (7 - n)), o, z))

    pub sought_one : Some (8 * length front + 7 - trailing_zeros w8 b) ≡ last_one_of s
    sought_one =
        let t : trailing_zeros w8 b < 8 = lowest.0 in
        let e : 8 * length front + 7 - trailing_zeros w8 b ≡ 8 * length front + (7 - trailing_zeros w8 b) = omega (arith, t) in
        let f : 8 * length front + 7 - trailing_zeros w8 b + 1 ≡ 8 * length front + (8 - trailing_zeros w8 b) = omega (arith, t) in
        found_once s (Some (8 * length front + 7 - trailing_zeros w8 b)) (last_one_of s) (record {
          one = ap (bit_at s) e ∙ bit_here (trailing_zeros w8 b) t ∙ lowest.1;
          none = ap (ones_from s) f ∙ lower (trailing_zeros w8 b) (omega arith);
        }) (last_one_found s)

-- ── Further data, by the place ────────────────────────────────────────
-- how many bits a place is before the last one-bit
abbrev pub up_to_last : ℕ → Option ℕ → ℕ
up_to_last at None = 0
up_to_last at (Some p) = p - at

data_up_to_last : (s : List ℕ) (at : ℕ) (found : Option ℕ) → Found s found → up_to_last at found ≡ data_bits s at (8 * length s - at)
data_up_to_last s at None F = sym (data_without_ones s at (8 * length s - at) (omega (arith, F, ones_fall s 0 at (omega arith))))
data_up_to_last s at (Some p) F = sym (data_to_last s at (8 * length s - at) p refl F)

module _ (s : List ℕ) {found known : Option ℕ} (F : found ≡ last_one_of s) (K : found ≡ known) where
  is_found : Found s known
  is_found = subst (Found s) (sym F ∙ K) (last_one_found s)

  pub more_by_place : (at : ℕ) → is_before_last at known ≡ more_data s at
  more_by_place at = sym (more_by_last s at known is_found)

  pub data_by_place : (at : ℕ) → up_to_last at known ≡ data_bits s at (8 * length s - at)
  data_by_place at = data_up_to_last s at known is_found
