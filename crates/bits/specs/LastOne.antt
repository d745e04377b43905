-- The place of the last one-bit, and more_rbsp_data() by it: one comparison, once the place is known.
use Rattle.std.specs.Prelude.{ℕ, zero, suc, ◌*◌, ◌<◌, ◌≡◌, List, Bool, true, false, ◌↔◌, eqb, ltb, length, MatchOption, IsSomeAnd}
use Rattle.std.proofs.Common.{Option, None, Some}
use Rattle.bits.specs.Bits.{bit_at, ones_from}
use Rattle.bits.specs.Reading.{more_data}
use Rattle.bits.specs.OneLaws.{LastOne}

-- the last one-bit among the first n bits, sought from the end; none where they are all 0
unfoldable pub last_one_among : List ℕ → ℕ → Option ℕ
last_one_among s zero = None
last_one_among s (suc n) = elim (eqb (bit_at s n) 1) [ true ↦ Some n | false ↦ last_one_among s n ]

abbrev pub last_one_of : List ℕ → Option ℕ
last_one_of s = last_one_among s (8 * length s)

-- ── What is found ─────────────────────────────────────────────────────
-- that it is the last, or that there is none
abbrev pub Found : List ℕ → Option ℕ → Type 0
Found s found = MatchOption found (ones_from s 0 ≡ 0) (λ p. LastOne s p)

-- ── more_rbsp_data() ──────────────────────────────────────────────────
-- whether a place lies before the last one-bit
abbrev pub is_before_last : ℕ → Option ℕ → Bool
is_before_last at None = false
is_before_last at (Some p) = ltb at p

-- what a place that is found, or that none is, says of the bits, and of further data at any place
pub record LastAndMore (s : List ℕ) (at : ℕ) (found : Option ℕ) : Type 0 where
  -- its bit is 1, and each bit behind it is 0; none is found where all bits are 0
  pub last : MatchOption found ((k : ℕ) → bit_at s k ≡ 0) (λ p. (bit_at s p ≡ 1) × ((k : ℕ) → p < k → bit_at s k ≡ 0))
  -- further data remain exactly if there is such a place and the bit place lies before it
  pub more : (more_data s at ≡ true) ↔ IsSomeAnd found (λ p. at < p)
