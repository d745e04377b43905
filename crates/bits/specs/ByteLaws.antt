-- Bits packed into bytes.
use Rattle.std.specs.Prelude.{ℕ, zero, suc, ◌+◌, ◌*◌, ◌-◌, ◌/◌, ◌%◌, ◌^◌, ◌<◌, ◌≡◌, refl, List, [], ◌∷◌, ◌++◌, length, replicate}
use Rattle.std.proofs.Common.{◌∙◌, subst, append_assoc, mod-lt, arith, lit<, length-append}
use Rattle.std.proofs.Math.Seq.{get_or-append_seam}
use Rattle.bits.specs.Bits.{bit_at, bits_of, pack}
use Rattle.bits.specs.Code.{prefix_length, code_of}
use Rattle.bits.specs.FieldLaws.{BitsAt}

-- each number is 0 or 1
abbrev pub AllBits : List ℕ → Type 0
AllBits [] = Unit {0}
AllBits (b ∷ x) = (b < 2) × AllBits x

pub all_join : (x y : List ℕ) → AllBits x → AllBits y → AllBits (x ++ y)
all_join [] y h k = k
all_join (b ∷ x) y h k = (h.0, all_join x y h.1 k)

pub all_zeros : (n : ℕ) → AllBits (replicate n 0)
all_zeros zero = tt
all_zeros (suc n) = (lit< tt, all_zeros n)

pub all_bits : (w v : ℕ) → AllBits (bits_of w v)
unfolding bits_of
all_bits zero v = tt
all_bits (suc w) v = all_join (bits_of w (v / 2)) (v % 2 ∷ []) (all_bits w (v / 2)) (mod-lt v (lit< tt), tt)

pub all_code : (v : ℕ) → AllBits (code_of v)
unfolding code_of
all_code v =
    let k : ℕ = prefix_length v in
    all_join (replicate k 0 ++ (1 ∷ [])) (bits_of k (v + 1 - 2 ^ k)) (all_join (replicate k 0) (1 ∷ []) (all_zeros k) (lit< tt, tt)) (all_bits k (v + 1 - 2 ^ k))

-- the bits of the byte behind some others
bit_behind : (h z : List ℕ) (v j at : ℕ) → j < 8 → at ≡ 8 * length h + j → bit_at (h ++ (v ∷ z)) at ≡ v / 2 ^ (7 - j) % 2
unfolding bit_at
bit_behind h z v j at f e =
    let d : at / 8 ≡ length h = omega arith in
    let m : at % 8 ≡ j = omega arith in
    rw (d, m, get_or-append_seam h v z 0) refl

-- packed bits stand where the bytes begin
pub pack_bits : (x h : List ℕ) → AllBits x → length x % 8 ≡ 0 → (at : ℕ) → at ≡ 8 * length h → BitsAt (h ++ pack x) at x
unfolding pack
pack_bits [] h b f at e = tt
pack_bits (x₀ ∷ x₁ ∷ x₂ ∷ x₃ ∷ x₄ ∷ x₅ ∷ x₆ ∷ x₇ ∷ r) h b f at e =
    let v : ℕ = ((((((x₀ * 2 + x₁) * 2 + x₂) * 2 + x₃) * 2 + x₄) * 2 + x₅) * 2 + x₆) * 2 + x₇ in
    let i : BitsAt ((h ++ (v ∷ [])) ++ pack r) (at + 1 + 1 + 1 + 1 + 1 + 1 + 1 + 1) r = pack_bits r (h ++ (v ∷ [])) b.1.1.1.1.1.1.1.1 (omega arith) (at + 1 + 1 + 1 + 1 + 1 + 1 + 1 + 1) (omega (arith, length-append h (v ∷ []))) in
    let j : BitsAt (h ++ (v ∷ pack r)) (at + 1 + 1 + 1 + 1 + 1 + 1 + 1 + 1) r = subst (λ (l : List ℕ). BitsAt l (at + 1 + 1 + 1 + 1 + 1 + 1 + 1 + 1) r) (append_assoc h (v ∷ []) (pack r)) i in
    let g₀ = b.0 in
    let g₁ = b.1.0 in
    let g₂ = b.1.1.0 in
    let g₃ = b.1.1.1.0 in
    let g₄ = b.1.1.1.1.0 in
    let g₅ = b.1.1.1.1.1.0 in
    let g₆ = b.1.1.1.1.1.1.0 in
    let g₇ = b.1.1.1.1.1.1.1.0 in (
      bit_behind h (pack r) v 0 at (lit< tt) (omega arith) ∙ omega arith,
      (
        bit_behind h (pack r) v 1 (at + 1) (lit< tt) (omega arith) ∙ omega arith,
        (
          bit_behind h (pack r) v 2 (at + 1 + 1) (lit< tt) (omega arith) ∙ omega arith,
          (
            bit_behind h (pack r) v 3 (at + 1 + 1 + 1) (lit< tt) (omega arith) ∙ omega arith,
            (
              bit_behind h (pack r) v 4 (at + 1 + 1 + 1 + 1) (lit< tt) (omega arith) ∙ omega arith,
              (
                bit_behind h (pack r) v 5 (at + 1 + 1 + 1 + 1 + 1) (lit< tt) (omega arith) ∙ omega arith,
                (
                  bit_behind h (pack r) v 6 (at + 1 + 1 + 1 + 1 + 1 + 1) (lit< tt) (omega arith) ∙ omega arith,
                  (
                    bit_behind h (pack r) v 7 (at + 1 + 1 + 1 + 1 + 1 + 1 + 1) (lit< tt) (omega arith) ∙ omega arith,
                    j,
                  ),
                ),
              ),
            ),
          ),
        ),
      ),
    )
pack_bits (x₀ ∷ []) h b f at e = absurd (omega arith)
pack_bits (x₀ ∷ x₁ ∷ []) h b f at e = absurd (omega arith)
pack_bits (x₀ ∷ x₁ ∷ x₂ ∷ []) h b f at e = absurd (omega arith)
pack_bits (x₀ ∷ x₁ ∷ x₂ ∷ x₃ ∷ []) h b f at e = absurd (omega arith)
pack_bits (x₀ ∷ x₁ ∷ x₂ ∷ x₃ ∷ x₄ ∷ []) h b f at e = absurd (omega arith)
pack_bits (x₀ ∷ x₁ ∷ x₂ ∷ x₃ ∷ x₄ ∷ x₅ ∷ []) h b f at e = absurd (omega arith)
pack_bits (x₀ ∷ x₁ ∷ x₂ ∷ x₃ ∷ x₄ ∷ x₅ ∷ x₆ ∷ []) h b f at e = absurd (omega arith)

pub pack_length : (x : List ℕ) → length x % 8 ≡ 0 → 8 * length (pack x) ≡ length x
unfolding pack
pack_length [] f = refl
pack_length (x₀ ∷ x₁ ∷ x₂ ∷ x₃ ∷ x₄ ∷ x₅ ∷ x₆ ∷ x₇ ∷ r) f = omega (arith, pack_length r (omega arith))
pack_length (x₀ ∷ []) f = absurd (omega arith)
pack_length (x₀ ∷ x₁ ∷ []) f = absurd (omega arith)
pack_length (x₀ ∷ x₁ ∷ x₂ ∷ []) f = absurd (omega arith)
pack_length (x₀ ∷ x₁ ∷ x₂ ∷ x₃ ∷ []) f = absurd (omega arith)
pack_length (x₀ ∷ x₁ ∷ x₂ ∷ x₃ ∷ x₄ ∷ []) f = absurd (omega arith)
pack_length (x₀ ∷ x₁ ∷ x₂ ∷ x₃ ∷ x₄ ∷ x₅ ∷ []) f = absurd (omega arith)
pack_length (x₀ ∷ x₁ ∷ x₂ ∷ x₃ ∷ x₄ ∷ x₅ ∷ x₆ ∷ []) f = absurd (omega arith)
