-- The bits of what stands behind the first bytes of a list are the list's own, that many bytes on.
use Rattle.std.specs.Prelude.{ℕ, zero, suc, ◌+◌, ◌*◌, ◌-◌, ◌/◌, ◌%◌, ◌≡◌, refl, List, length, drop}
use Rattle.std.proofs.Common.{◌∙◌, arith, length-drop}
use Rattle.std.proofs.lemmas.List.{get_or-drop}
use Rattle.bits.specs.Bits.{bit_at, field_at, ones_at, ones_from}

module _ (s : List ℕ) (i : ℕ) where
  pub rest_bit : (p : ℕ) → bit_at (drop i s) p ≡ bit_at s (8 * i + p)
  unfolding bit_at
  rest_bit p =
      let q : i + p / 8 ≡ (8 * i + p) / 8 = omega arith in
      let m : p % 8 ≡ (8 * i + p) % 8 = omega arith in
      rw (get_or-drop i s (p / 8) 0, q, m) refl

  pub rest_field : (p w : ℕ) → field_at (drop i s) p w ≡ field_at s (8 * i + p) w
  unfolding field_at
  rest_field p zero = refl
  rest_field p (suc w) =
      let e : 8 * i + (p + w) ≡ 8 * i + p + w = omega arith in
      rw (rest_field p w, rest_bit (p + w), e) refl

  rest_ones : (p n : ℕ) → ones_at (drop i s) p n ≡ ones_at s (8 * i + p) n
  unfolding ones_at
  rest_ones p zero = refl
  rest_ones p (suc n) =
      let e : 8 * i + (p + n) ≡ 8 * i + p + n = omega arith in
      rw (rest_ones p n, rest_bit (p + n), e) refl

  pub rest_ones_from : ones_from (drop i s) 0 ≡ ones_from s (8 * i)
  rest_ones_from =
      let n : 8 * length (drop i s) - 0 ≡ 8 * length s - 8 * i = omega (arith, length-drop i s) in
      let z : 8 * i + 0 ≡ 8 * i = omega arith in
      rest_ones 0 (8 * length (drop i s) - 0) ∙ rw (n, z) refl
