-- Codes: ue(v) of H.266 clause 9.2; a code that the end of the bytes cuts is refused.
use Rattle.std.specs.Prelude.{ℕ, zero, suc, ◌+◌, ◌*◌, ◌-◌, ◌^◌, List, [], ◌∷◌, ◌++◌, cond, ◌&&◌, ltb, leb, eqb, length, replicate}
use Rattle.std.specs.Int.Count.{count_leading_zeros}
use Rattle.refusals.specs.Number.{code_too_long, code_past_end}
use Rattle.bits.specs.Bits.{bit_at, field_at, bits_of}

-- what a reading step gives: a value and the place behind it, or a refusal's number
pub data Taken : Type 0 where
  taken : (value next : ℕ) → Taken
  refused : (number : ℕ) → Taken

-- how many zeros stand from a place on before a one or the end, n at the most
unfoldable pub zeros_at : List ℕ → ℕ → ℕ → ℕ
zeros_at s at zero = 0
zeros_at s at (suc n) = cond (ltb at (8 * length s) && eqb (bit_at s at) 0) (suc (zeros_at s (at + 1) n)) 0

-- behind k zeros: a one and k bits of suffix, the last of them among the bytes
unfoldable pub code_behind : List ℕ → ℕ → ℕ → Taken
code_behind s at k =
    cond (leb (at + k + 1 + k) (8 * length s))
    (taken (2 ^ k - 1 + field_at s (at + k + 1) k) (at + k + 1 + k))
    (refused code_past_end)

-- the code at a place; 32 zeros are none
unfoldable pub code_at : List ℕ → ℕ → Taken
code_at s at = cond (ltb (zeros_at s at 32) 32) (code_behind s at (zeros_at s at 32)) (refused code_too_long)

-- the other way: the length of a number's prefix of zeros, k for v + 1 from 2 ^ k to 2 ^ (k + 1) - 1
abbrev pub prefix_length : ℕ → ℕ
prefix_length v = 31 - count_leading_zeros 32 (v + 1)

-- the code of v, below 2 ^ 32 - 1: k zeros, a one, k bits of suffix
unfoldable pub code_of : ℕ → List ℕ
code_of v = replicate (prefix_length v) 0 ++ (1 ∷ []) ++ bits_of (prefix_length v) (v + 1 - 2 ^ prefix_length v)
