-- One-bits from a place on, the last of them, and more_rbsp_data() by it.
use Rattle.std.specs.Prelude.{ℕ, zero, suc, ◌+◌, ◌*◌, ◌-◌, ◌≤◌, ◌<◌, ◌≡◌, refl, List, Bool, true, false, ◌↔◌, leb, ltb, length}
use Rattle.std.proofs.Common.{ap, ◌∙◌, add-zero, arith, leb-true, leb-false, le-leb, ltb-true, ltb-false}
use Rattle.std.proofs.lemmas.Bool.{lt-leb}
use Rattle.bits.specs.Bits.{bit_at, field_at, ones_at, ones_from}
use Rattle.bits.specs.Reading.{more_data}
use Rattle.bits.specs.FieldLaws.{bit_lt, bit_past_end, one_inside, ones_first}

-- ── From a place on ───────────────────────────────────────────────────
pub ones_past_end : (s : List ℕ) (at : ℕ) → 8 * length s ≤ at → ones_from s at ≡ 0
ones_past_end s at l = let e : 8 * length s - at ≡ 0 = omega arith in rw e (unfold ones_at in refl)

-- the place's bit, and those behind it
pub ones_here : (s : List ℕ) (at : ℕ) → ones_from s at ≡ bit_at s at + ones_from s (at + 1)
ones_here s at = go (ltb at (8 * length s)) refl
  where
    go : (b : Bool) → ltb at (8 * length s) ≡ b → ones_from s at ≡ bit_at s at + ones_from s (at + 1)
    go true e =
        let l = ltb-true at (8 * length s) e in
        let n : 8 * length s - at ≡ suc (8 * length s - (at + 1)) = omega arith in
        ap (ones_at s at) n ∙ ones_first s at (8 * length s - (at + 1))
    go false e =
        let l : 8 * length s ≤ at = ltb-false at (8 * length s) e in
        omega (arith, ones_past_end s at l, bit_past_end s at l, ones_past_end s (at + 1) (omega arith))

-- so there are no more from a later place on
pub ones_fall : (s : List ℕ) (at k : ℕ) → at ≤ k → ones_from s k ≤ ones_from s at
ones_fall s at k l = let e : at + (k - at) ≡ k = omega arith in rw e at (go (k - at))
  where
    go : (n : ℕ) → ones_from s (at + n) ≤ ones_from s at
    go zero = rw (add-zero at) (omega arith)
    go (suc n) = let e : at + suc n ≡ at + n + 1 = omega arith in rw e (omega (arith, go n, ones_here s (at + n)))

-- behind zeros there are as many
pub ones_behind_zeros : (s : List ℕ) (at w : ℕ) → field_at s at w ≡ 0 → ones_from s at ≡ ones_from s (at + w)
unfolding field_at
ones_behind_zeros s at zero h = rw (add-zero at) refl
ones_behind_zeros s at (suc w) h =
    let e : at + suc w ≡ at + w + 1 = omega arith in
    rw e (omega (arith, h, ones_behind_zeros s at w (omega (arith, h)), ones_here s (at + w)))

-- and a field that isn't 0 has one
pub ones_in_field : (s : List ℕ) (at w : ℕ) → 0 < field_at s at w → 1 ≤ ones_from s at
unfolding field_at
ones_in_field s at zero h = absurd (omega arith)
ones_in_field s at (suc w) h = go (leb 1 (field_at s at w)) refl (ones_in_field s at w)
  where
    go : (b : Bool) → leb 1 (field_at s at w) ≡ b → (0 < field_at s at w → 1 ≤ ones_from s at) → 1 ≤ ones_from s at
    go true e k = k (omega (arith, leb-true 1 (field_at s at w) e))
    go false e k = omega (arith, h, leb-false 1 (field_at s at w) e, ones_here s (at + w), ones_fall s at (at + w) (omega arith))

-- so without ones every field is 0
pub field_without_ones : (s : List ℕ) (at w : ℕ) → ones_from s at ≡ 0 → field_at s at w ≡ 0
field_without_ones s at w h = go (leb 1 (field_at s at w)) refl
  where
    go : (b : Bool) → leb 1 (field_at s at w) ≡ b → field_at s at w ≡ 0
    go true e = absurd (omega (arith, h, ones_in_field s at w (omega (arith, leb-true 1 (field_at s at w) e))))
    go false e = omega (arith, leb-false 1 (field_at s at w) e)

-- ── The last ──────────────────────────────────────────────────────────
-- a one-bit, with none behind it
pub record LastOne (s : List ℕ) (place : ℕ) : Type 0 where
  pub one : bit_at s place ≡ 1
  pub none : ones_from s (place + 1) ≡ 0

-- where there is a one-bit from a place on, there is a last
pub last_one : (s : List ℕ) (at : ℕ) → 1 ≤ ones_from s at → (p : ℕ) × ((at ≤ p) × LastOne s p)
last_one s at h = go (8 * length s - at) at refl h
  where
    go : (n at : ℕ) → 8 * length s - at ≡ n → 1 ≤ ones_from s at → (p : ℕ) × ((at ≤ p) × LastOne s p)
    go zero at e h = absurd (omega (arith, h, ones_past_end s at (omega arith)))
    go (suc n) at e h = by (leb 1 (ones_from s (at + 1))) refl (go n (at + 1) (omega arith))
      where
        by : (b : Bool) → leb 1 (ones_from s (at + 1)) ≡ b → (1 ≤ ones_from s (at + 1) → (p : ℕ) × ((at + 1 ≤ p) × LastOne s p)) → (p : ℕ) × ((at ≤ p) × LastOne s p)
        by true f k = let L = k (leb-true 1 (ones_from s (at + 1)) f) in (L.0, (omega (arith, L.1.0), L.1.1))
        by false f k =
            let z : ones_from s (at + 1) ≡ 0 = omega (arith, leb-false 1 (ones_from s (at + 1)) f) in
            (at, (omega arith, record { one = omega (arith, h, z, ones_here s at, bit_lt s at); none = z }))

pub last_inside : (s : List ℕ) (p : ℕ) → LastOne s p → p < 8 * length s
last_inside s p L = one_inside s p L.one

-- ── more_rbsp_data() ──────────────────────────────────────────────────
-- true exactly before the last one-bit
pub more_before_last : (s : List ℕ) (p at : ℕ) → LastOne s p → more_data s at ≡ ltb at p
unfolding more_data
more_before_last s p at L = go (ltb at p) refl
  where
    go : (b : Bool) → ltb at p ≡ b → more_data s at ≡ b
    go true e =
        let l : at + 1 ≤ p = omega (arith, ltb-true at p e) in
        le-leb 1 (ones_from s (at + 1)) (omega (arith, ones_fall s (at + 1) p l, ones_here s p, L.one))
    go false e =
        let l : p + 1 ≤ at + 1 = omega (arith, ltb-false at p e) in
        lt-leb 1 (ones_from s (at + 1)) (omega (arith, ones_fall s (p + 1) (at + 1) l, L.none))

-- and false where no one-bit is left
pub more_without_ones : (s : List ℕ) (at : ℕ) → ones_from s at ≡ 0 → more_data s at ≡ false
unfolding more_data
more_without_ones s at h = lt-leb 1 (ones_from s (at + 1)) (omega (arith, h, ones_here s at))

-- so it is true exactly if a one-bit stands behind the place's bit
pub more_iff_one_behind : (s : List ℕ) (at : ℕ) → (more_data s at ≡ true) ↔ ((k : ℕ) × ((at < k) × (bit_at s k ≡ 1)))
unfolding more_data
more_iff_one_behind s at = (
  (λ h. let L = last_one s (at + 1) (leb-true 1 (ones_from s (at + 1)) h) in (L.0, (omega (arith, L.1.0), L.1.1.one))),
  (λ K. le-leb 1 (ones_from s (at + 1)) (omega (arith, ones_fall s (at + 1) K.0 (omega (arith, K.1.0)), ones_here s K.0, K.1.1))),
)
