-- What writing bits leaves: those bits and no other, and what they read back as.
use Prim.Native.Nat.{ℕ, zero, suc, ◌+◌, ◌*◌, ◌-◌, ◌/◌, ◌%◌, ◌^◌, ◌≤◌, ◌<◌}
use Rattle.std.specs.Prelude.{◌≡◌, refl, List, [], ◌∷◌, Bool, true, false, cond, ◌&&◌, ◌||◌, ◌⊎◌, ltb, leb, eqb, get_or, set}
use Rattle.std.proofs.Common.{sym, ap, ◌∙◌, subst, inl, inr, ⊎_elim, mod-lt, length-set, pow_pos, shr-shr, get_or-set_same, get_or-set_other, ltb-true, ltb-false, leb-true, eqb-true}
use native.Mathlib.Omega.{arith}
use Rattle.std.proofs.Math.Arith.{lt_of_le-ne}
use Rattle.std.proofs.Math.Dec.{eqb-suc-zero}
use Rattle.std.proofs.Math.ListN.{length}
use Rattle.std.proofs.Math.Pow.{mod-mod-pow, low, high}
use Rattle.std.proofs.Math.Pow as Pow
use Rattle.std.proofs.lemmas.Bool.{eqb-false}
use Rattle.refusals.specs.Answer.Answer.{success, refusal}
use Rattle.bits.specs.Bits.{weight, bit_at, field_at, bits_of, with_bit, set_bit, set_bits}
use Rattle.bits.specs.Code.Taken.{taken}
use Rattle.bits.specs.Reading.{place_good, read_field}
use Rattle.bits.specs.Writing.{has_room, write_bits, buffer_after, field_good}
use Rattle.bits.specs.FieldLaws.{BitsAt, bits_length, field_bits}
use Rattle.bits.specs.ByteLaws.{AllBits, all_bits}

less : (a b : ℕ) → (a < b) ⊎ (b ≤ a)
less a b = go (ltb a b) refl where
  go : (t : Bool) → ltb a b ≡ t → (a < b) ⊎ (b ≤ a)
  go true e = inl (ltb-true a b e)
  go false e = inr (ltb-false a b e)

same : (a b : ℕ) → (a ≡ b) ⊎ (a ≡ b → ⊥)
same a b = go (eqb a b) refl where
  go : (t : Bool) → eqb a b ≡ t → (a ≡ b) ⊎ (a ≡ b → ⊥)
  go true e = inl (eqb-true a b e)
  go false e = inr (eqb-false a b e)

-- ── A bit of a byte ───────────────────────────────────────────────────
-- what holds of each of the eight weights holds of the weight at any place
pub each_weight : (P : ℕ → Type 0) → P 1 → P 2 → P 4 → P 8 → P 16 → P 32 → P 64 → P 128 → (k : ℕ) → k < 8 → P (2 ^ k)
each_weight P a b c d e f g h zero l = a
each_weight P a b c d e f g h (suc zero) l = b
each_weight P a b c d e f g h (suc (suc zero)) l = c
each_weight P a b c d e f g h (suc (suc (suc zero))) l = d
each_weight P a b c d e f g h (suc (suc (suc (suc zero)))) l = e
each_weight P a b c d e f g h (suc (suc (suc (suc (suc zero))))) l = f
each_weight P a b c d e f g h (suc (suc (suc (suc (suc (suc zero)))))) l = g
each_weight P a b c d e f g h (suc (suc (suc (suc (suc (suc (suc zero))))))) l = h
each_weight P a b c d e f g h (suc (suc (suc (suc (suc (suc (suc (suc n)))))))) l = absurd (omega (arith, l))

-- the bit that was set
with_same : (x b k : ℕ) → k < 8 → b < 2 → with_bit x (2 ^ k) b / 2 ^ k % 2 ≡ b
with_same x b k hk hb =
    each_weight (λ (m : ℕ). with_bit x m b / m % 2 ≡ b) (omega arith) (omega arith) (omega arith) (omega arith) (omega arith) (omega arith) (omega arith) (omega arith) k hk

-- the byte above the bit, the bit, and the byte below it
parts : (x b k : ℕ) → k < 8 → with_bit x (2 ^ k) b ≡ (x / 2 ^ k / 2 * 2 + b) * 2 ^ k + x % 2 ^ k
parts x b k hk =
    each_weight (λ (m : ℕ). with_bit x m b ≡ (x / m / 2 * 2 + b) * m + x % m)
    (omega arith) (omega arith) (omega arith) (omega arith) (omega arith) (omega arith) (omega arith) (omega arith) k hk

-- a bit below 2 ^ k goes by the rest modulo 2 ^ k, and one above it by the half of the quotient
low_bit : (y x j e : ℕ) → y % 2 ^ (e + (1 + j)) ≡ x % 2 ^ (e + (1 + j)) → y / 2 ^ j % 2 ≡ x / 2 ^ j % 2
low_bit y x j e q =
    sym (Pow.field y 1 j) ∙ ap (λ (n : ℕ). n / 2 ^ j) (sym (mod-mod-pow y e (1 + j)) ∙ ap (λ (n : ℕ). n % 2 ^ (1 + j)) q ∙ mod-mod-pow x e (1 + j)) ∙ Pow.field x 1 j

high_bit : (y x k e : ℕ) → y / 2 ^ k / 2 ≡ x / 2 ^ k / 2 → y / 2 ^ (k + (1 + e)) ≡ x / 2 ^ (k + (1 + e))
high_bit y x k e q =
    sym (shr-shr y k (1 + e)) ∙ sym (shr-shr (y / 2 ^ k) 1 e) ∙ ap (λ (n : ℕ). n / 2 ^ e) q ∙ shr-shr (x / 2 ^ k) 1 e ∙ shr-shr x k (1 + e)

module _ (x b k : ℕ) (hk : k < 8) (hb : b < 2) where
  with_low : with_bit x (2 ^ k) b % 2 ^ k ≡ x % 2 ^ k
  with_low = rw (parts x b k hk) (low (x / 2 ^ k / 2 * 2 + b) k {lo = x % 2 ^ k} (mod-lt x (pow_pos k)))

  with_high : with_bit x (2 ^ k) b / 2 ^ k / 2 ≡ x / 2 ^ k / 2
  with_high = rw (parts x b k hk, high (x / 2 ^ k / 2 * 2 + b) k {lo = x % 2 ^ k} (mod-lt x (pow_pos k))) (omega arith)

  with_other : (j : ℕ) → (j ≡ k → ⊥) → with_bit x (2 ^ k) b / 2 ^ j % 2 ≡ x / 2 ^ j % 2
  with_other j ne = ⊎_elim below above (less j k) where
    below : j < k → with_bit x (2 ^ k) b / 2 ^ j % 2 ≡ x / 2 ^ j % 2
    below l =
        let e : k ≡ k - (1 + j) + (1 + j) = omega arith in
        low_bit (with_bit x (2 ^ k) b) x j (k - (1 + j)) (subst (λ (n : ℕ). with_bit x (2 ^ k) b % 2 ^ n ≡ x % 2 ^ n) e with_low)

    above : k ≤ j → with_bit x (2 ^ k) b / 2 ^ j % 2 ≡ x / 2 ^ j % 2
    above l =
        let l' : k < j = lt_of_le-ne l (λ q. ne (sym q)) in
        let e : k + (1 + (j - (1 + k))) ≡ j = omega arith in
        ap (λ (n : ℕ). n % 2) (subst (λ (n : ℕ). with_bit x (2 ^ k) b / 2 ^ n ≡ x / 2 ^ n) e (high_bit (with_bit x (2 ^ k) b) x k (j - (1 + k)) with_high))

-- ── A bit of a buffer ─────────────────────────────────────────────────
module _ (s : List ℕ) (at b : ℕ) (inside : at < 8 * length s) (hb : b < 2) where
  pub bit_same : bit_at (set_bit s at b) at ≡ b
  unfolding bit_at set_bit
  bit_same =
      let h : at / 8 < length s = omega arith in
      rw (get_or-set_same s (at / 8) (with_bit (get_or s (at / 8) 0) (weight at) b) 0 h) (with_same (get_or s (at / 8) 0) b (7 - at % 8) (omega arith) hb)

  pub bit_other : (i : ℕ) → (i ≡ at → ⊥) → bit_at (set_bit s at b) i ≡ bit_at s i
  unfolding bit_at set_bit
  bit_other i ne = go (same (i / 8) (at / 8)) where
    y : ℕ
    y = with_bit (get_or s (at / 8) 0) (weight at) b

    go : (i / 8 ≡ at / 8) ⊎ (i / 8 ≡ at / 8 → ⊥) → get_or (set s (at / 8) y) (i / 8) 0 / weight i % 2 ≡ get_or s (i / 8) 0 / weight i % 2
    go (inl e) =
        let h : at / 8 < length s = omega arith in
        rw (e, get_or-set_same s (at / 8) y 0 h) (with_other (get_or s (at / 8) 0) b (7 - at % 8) (omega arith) hb (7 - i % 8) (λ q. ne (omega arith)))
    go (inr n) = rw (get_or-set_other s (at / 8) (i / 8) y 0 n) refl

pub length_set_bit : (s : List ℕ) (at b : ℕ) → length (set_bit s at b) ≡ length s
unfolding set_bit
length_set_bit s at b = length-set s (at / 8) (with_bit (get_or s (at / 8) 0) (weight at) b)

-- ── Bits of a buffer ──────────────────────────────────────────────────
pub length_set_bits : (s : List ℕ) (at : ℕ) (b : List ℕ) → length (set_bits s at b) ≡ length s
unfolding set_bits
length_set_bits s at [] = refl
length_set_bits s at (x ∷ b) = length_set_bits (set_bit s at x) (at + 1) b ∙ length_set_bit s at x

-- a place before some bits, or behind them
abbrev pub Outside : ℕ → ℕ → ℕ → Type 0
Outside at n i = (i < at) ⊎ (at + n ≤ i)

-- bits outside are as they were
pub set_outside : (s : List ℕ) (at : ℕ) (b : List ℕ) → AllBits b → at + length b ≤ 8 * length s → (i : ℕ) → Outside at (length b) i → bit_at (set_bits s at b) i ≡ bit_at s i
unfolding set_bits
set_outside s at [] hb h i o = refl
set_outside s at (x ∷ b) hb h i o =
    set_outside (set_bit s at x) (at + 1) b hb.1 (omega (arith, length_set_bit s at x)) i (out o)
    ∙ bit_other s at x (omega arith) hb.0 i (apart o) where
      out : (i < at) ⊎ (at + suc (length b) ≤ i) → (i < at + 1) ⊎ (at + 1 + length b ≤ i)
      out (inl l) = inl (omega arith)
      out (inr l) = inr (omega arith)

      apart : (i < at) ⊎ (at + suc (length b) ≤ i) → i ≡ at → ⊥
      apart (inl l) q = omega arith
      apart (inr l) q = omega arith

-- bits inside are those written
pub set_inside : (s : List ℕ) (at : ℕ) (b : List ℕ) → AllBits b → at + length b ≤ 8 * length s → BitsAt (set_bits s at b) at b
unfolding set_bits
set_inside s at [] hb h = tt
set_inside s at (x ∷ b) hb h =
    let l : at + 1 + length b ≤ 8 * length (set_bit s at x) = omega (arith, length_set_bit s at x) in (
      set_outside (set_bit s at x) (at + 1) b hb.1 l at (inl (omega arith)) ∙ bit_same s at x (omega arith) hb.0,
      set_inside (set_bit s at x) (at + 1) b hb.1 l,
    )

-- ── Steps of the writer ───────────────────────────────────────────────
-- what a step that succeeded says
pub record Written (good : Bool) (out : List ℕ) (at : ℕ) (b : List ℕ) (next : ℕ) : Type 0 where
  pub valid : good ≡ true
  pub room : (length b ≡ 0) ⊎ (at + length b ≤ 8 * length out)
  pub behind : next ≡ at + length b
  pub after : buffer_after good out at b ≡ set_bits out at b

pub written : (good : Bool) (out : List ℕ) (at : ℕ) (b : List ℕ) (next : ℕ) → write_bits good out at b ≡ success next → Written good out at b next
unfolding write_bits buffer_after
written true out at b next e = go (eqb (length b) 0) refl (leb (at + length b) (8 * length out)) refl e
  where
    go : (n : Bool) → eqb (length b) 0 ≡ n → (r : Bool) → leb (at + length b) (8 * length out) ≡ r
        → cond (n || r) (success (at + length b)) (refusal 32) ≡ success next → Written true out at b next
    go true f r g h = let y : at + length b ≡ next = cc in record { valid = refl; room = inl (eqb-true (length b) 0 f); behind = sym y; after = rw f refl }
    go false f true g h = let y : at + length b ≡ next = cc in record { valid = refl; room = inr (leb-true (at + length b) (8 * length out) g); behind = sym y; after = rw (f, g) refl }
    go false f false g h = absurd (let n : ◌≡◌ {A = ℕ} 0 1 = cc in omega arith)
written false out at b next e = absurd (let n : ◌≡◌ {A = ℕ} 0 1 = cc in omega arith)

pub length_after_lem : (good : Bool) (out : List ℕ) (at : ℕ) (b : List ℕ) → length (buffer_after good out at b) ≡ length out
unfolding buffer_after
length_after_lem good out at b = go (good && has_room out at (length b))
  where
    go : (t : Bool) → length (cond t (set_bits out at b) out) ≡ length out
    go true = length_set_bits out at b
    go false = refl

-- bits outside are as they were, refused or not
pub untouched : (good : Bool) (out : List ℕ) (at : ℕ) (b : List ℕ) → AllBits b → (i : ℕ) → Outside at (length b) i → bit_at (buffer_after good out at b) i ≡ bit_at out i
unfolding buffer_after set_bits
untouched false out at b hb i o = refl
untouched true out at b hb i o = go b hb o (leb (at + length b) (8 * length out)) refl
  where
    go : (b : List ℕ) → AllBits b → Outside at (length b) i → (r : Bool) → leb (at + length b) (8 * length out) ≡ r
        → bit_at (cond (eqb (length b) 0 || r) (set_bits out at b) out) i ≡ bit_at out i
    go [] hb o r g = refl
    go (x ∷ b) hb o true g = rw (eqb-suc-zero (length b)) (set_outside out at (x ∷ b) hb (leb-true (at + suc (length b)) (8 * length out) g) i o)
    go (x ∷ b) hb o false g = rw (eqb-suc-zero (length b)) refl

-- bits written stand there
pub stand : (out : List ℕ) (at : ℕ) (b : List ℕ) → AllBits b → (length b ≡ 0) ⊎ (at + length b ≤ 8 * length out) → BitsAt (set_bits out at b) at b
stand out at [] hb o = tt
stand out at (x ∷ b) hb (inl e) = absurd (omega arith)
stand out at (x ∷ b) hb (inr l) = set_inside out at (x ∷ b) hb l

pub both : (a b : Bool) → (a && b) ≡ true → (a ≡ true) × (b ≡ true)
both true true e = (refl, refl)
both true false e = absurd (let n : ◌≡◌ {A = ℕ} 0 1 = cc in omega arith)
both false b e = absurd (let n : ◌≡◌ {A = ℕ} 0 1 = cc in omega arith)

-- a field that was written reads back, with its place
pub field_reads_back : (out : List ℕ) (at v w next : ℕ) → write_bits (field_good at v w) out at (bits_of w v) ≡ success next
    → read_field (buffer_after (field_good at v w) out at (bits_of w v)) at w ≡ taken v next
unfolding read_field
field_reads_back out at v w next e =
    let x = written (field_good at v w) out at (bits_of w v) next e in
    let g = both (leb w 32 && ltb v (2 ^ w)) (place_good at) x.valid in
    let h = both (leb w 32) (ltb v (2 ^ w)) g.0 in
    let n : at + w ≡ next = sym (x.behind ∙ ap (λ (n : ℕ). at + n) (bits_length w v)) in
    let f : field_at (set_bits out at (bits_of w v)) at w ≡ v = field_bits (set_bits out at (bits_of w v)) at w v (ltb-true v (2 ^ w) h.1) (stand out at (bits_of w v) (all_bits w v) x.room) in
    rw (x.after, h.0, g.1, f, n) refl
