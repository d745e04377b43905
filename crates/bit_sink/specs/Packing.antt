-- Bits joined into one number, and packed into bytes behind others.
use Rattle.std.specs.Prelude.{ℕ, zero, suc, ◌+◌, ◌*◌, ◌-◌, ◌/◌, ◌%◌, ◌^◌, ◌≤◌, ◌<◌, ◌≡◌, refl, List, [], ◌∷◌, ◌++◌, length, drop}
use Rattle.std.proofs.Common.{sym, ap, ◌∙◌, mod-lt, suc-mul, arith, length-append, pow_pos, drop_at}
use Rattle.std.proofs.Math.Pow.{split, high}
use Rattle.bits.specs.Bits.{bits_of, pack}
use Rattle.bits.specs.FieldLaws.{bits_split, bits_over}

-- ── The bits of a number ──────────────────────────────────────────────
-- bits above the w lowest don't count
pub bits_above : (w h v : ℕ) → bits_of w (h * 2 ^ w + v) ≡ bits_of w v
bits_above w zero v = let e : 0 * 2 ^ w + v ≡ v = omega arith in ap (bits_of w) e
bits_above w (suc h) v =
    let e : suc h * 2 ^ w + v ≡ 2 ^ w + (h * 2 ^ w + v) = omega (arith, suc-mul h (2 ^ w)) in
    ap (bits_of w) e ∙ bits_over w (h * 2 ^ w + v) ∙ bits_above w h v

pub bits_low : (w v : ℕ) → bits_of w (v % 2 ^ w) ≡ bits_of w v
bits_low w v = sym (bits_above w (v / 2 ^ w) (v % 2 ^ w)) ∙ ap (bits_of w) (split v w)

-- the bits of two numbers are those of one
pub bits_joined : (k w p v : ℕ) → bits_of (k + w) (p * 2 ^ w + v % 2 ^ w) ≡ bits_of k p ++ bits_of w v
bits_joined k w p v =
    rw (bits_split k w (p * 2 ^ w + v % 2 ^ w), high p w {lo = v % 2 ^ w} (mod-lt v (pow_pos w)), bits_above w p (v % 2 ^ w), bits_low w v) refl

-- ── Packing ───────────────────────────────────────────────────────────
-- behind whole bytes
pub pack_append : (x y : List ℕ) → length x % 8 ≡ 0 → pack (x ++ y) ≡ pack x ++ pack y
unfolding pack
pack_append [] y f = refl
pack_append (x₀ ∷ x₁ ∷ x₂ ∷ x₃ ∷ x₄ ∷ x₅ ∷ x₆ ∷ x₇ ∷ r) y f = rw (pack_append r y (omega arith)) refl
pack_append (x₀ ∷ []) y f = absurd (omega arith)
pack_append (x₀ ∷ x₁ ∷ []) y f = absurd (omega arith)
pack_append (x₀ ∷ x₁ ∷ x₂ ∷ []) y f = absurd (omega arith)
pack_append (x₀ ∷ x₁ ∷ x₂ ∷ x₃ ∷ []) y f = absurd (omega arith)
pack_append (x₀ ∷ x₁ ∷ x₂ ∷ x₃ ∷ x₄ ∷ []) y f = absurd (omega arith)
pack_append (x₀ ∷ x₁ ∷ x₂ ∷ x₃ ∷ x₄ ∷ x₅ ∷ []) y f = absurd (omega arith)
pack_append (x₀ ∷ x₁ ∷ x₂ ∷ x₃ ∷ x₄ ∷ x₅ ∷ x₆ ∷ []) y f = absurd (omega arith)

-- fewer than eight make no byte
pub pack_few : (w v : ℕ) → w < 8 → pack (bits_of w v) ≡ []
unfolding pack bits_of
pack_few zero v h = refl
pack_few (suc zero) v h = refl
pack_few (suc (suc zero)) v h = refl
pack_few (suc (suc (suc zero))) v h = refl
pack_few (suc (suc (suc (suc zero)))) v h = refl
pack_few (suc (suc (suc (suc (suc zero))))) v h = refl
pack_few (suc (suc (suc (suc (suc (suc zero)))))) v h = refl
pack_few (suc (suc (suc (suc (suc (suc (suc zero))))))) v h = refl
pack_few (suc (suc (suc (suc (suc (suc (suc (suc w)))))))) v h = absurd (omega arith)

-- the bytes are no more than the bits
pub pack_short : (x : List ℕ) → length (pack x) ≤ length x
unfolding pack
pack_short [] = omega arith
pack_short (x₀ ∷ x₁ ∷ x₂ ∷ x₃ ∷ x₄ ∷ x₅ ∷ x₆ ∷ x₇ ∷ r) = omega (arith, pack_short r)
pack_short (x₀ ∷ []) = omega arith
pack_short (x₀ ∷ x₁ ∷ []) = omega arith
pack_short (x₀ ∷ x₁ ∷ x₂ ∷ []) = omega arith
pack_short (x₀ ∷ x₁ ∷ x₂ ∷ x₃ ∷ []) = omega arith
pack_short (x₀ ∷ x₁ ∷ x₂ ∷ x₃ ∷ x₄ ∷ []) = omega arith
pack_short (x₀ ∷ x₁ ∷ x₂ ∷ x₃ ∷ x₄ ∷ x₅ ∷ []) = omega arith
pack_short (x₀ ∷ x₁ ∷ x₂ ∷ x₃ ∷ x₄ ∷ x₅ ∷ x₆ ∷ []) = omega arith

-- the first eight of a number's bits are a byte
pack_byte : (v : ℕ) (y : List ℕ) → pack (bits_of 8 v ++ y) ≡ v % 256 ∷ pack y
unfolding pack bits_of
pack_byte v y = ap (λ (n : ℕ). n ∷ pack y) (omega arith)

pub pack_first : (w v : ℕ) → 8 ≤ w → pack (bits_of w v) ≡ v / 2 ^ (w - 8) % 256 ∷ pack (bits_of (w - 8) v)
pack_first w v h =
    let e : w ≡ 8 + (w - 8) = omega arith in
    ap (λ (n : ℕ). pack (bits_of n v)) e ∙ ap pack (bits_split 8 (w - 8) v) ∙ pack_byte (v / 2 ^ (w - 8)) (bits_of (w - 8) v)

-- the bits behind the last whole byte
pub rest_behind : (x y : List ℕ) → length x % 8 ≡ 0 → length y < 8 → drop (8 * (length (x ++ y) / 8)) (x ++ y) ≡ y
rest_behind x y f h = drop_at x y (8 * (length (x ++ y) / 8)) (omega (arith, length-append x y))
