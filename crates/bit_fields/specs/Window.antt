-- Where a window of eight bytes is laid, and what it holds.
use Rattle.std.specs.Prelude.{ℕ, ◌+◌, ◌*◌, ◌-◌, ◌/◌, ◌≤◌, ◌<◌, ◌≡◌, refl, List, Bool, true, false, cond, ltb, length, Option, Some, None}
use Rattle.std.proofs.Common.{arith, ltb-true, ltb-false}
use Rattle.bits.specs.Bits.{field_at}

-- at byte i of n, or before it, so that the window does not reach past the end where n is 8 or more
unfoldable pub window_start : ℕ → ℕ → ℕ
window_start n i = cond (ltb i (n - 8)) i (n - 8)

pub window_start_le : (n i : ℕ) → window_start n i ≤ i
unfolding window_start
window_start_le n i = go (ltb i (n - 8)) refl
  where
    go : (t : Bool) → ltb i (n - 8) ≡ t → cond t i (n - 8) ≤ i
    go true e = omega arith
    go false e = ltb-false i (n - 8) e

-- the first eight bytes as one number, if so many are there
abbrev pub IsFirst : List ℕ → Option ℕ → Type 0
IsFirst s None = length s < 8
IsFirst s (Some w) = (8 ≤ length s) × (w ≡ field_at s 0 64)

-- the window that is laid for a place's byte, and how many of its bits stand before the place
pub record Laid (s : List ℕ) (at window skipped : ℕ) : Type 0 where
  pub full : 8 ≤ length s
  pub bits : window ≡ field_at s (8 * window_start (length s) (at / 8)) 64
  pub before : skipped ≡ at - 8 * window_start (length s) (at / 8)

-- it is there where eight bytes are
abbrev pub IsWindow : List ℕ → ℕ → Option (ℕ × ℕ) → Type 0
IsWindow s at None = length s < 8
IsWindow s at (Some w) = Laid s at w.0 w.1

-- and then it ends with the last byte or before it
pub window_ends_inside : (n i : ℕ) → 8 ≤ n → window_start n i + 8 ≤ n
unfolding window_start
window_ends_inside n i h = go (ltb i (n - 8)) refl
  where
    go : (t : Bool) → ltb i (n - 8) ≡ t → cond t i (n - 8) + 8 ≤ n
    go true e = omega (arith, h, ltb-true i (n - 8) e)
    go false e = omega (arith, h)
