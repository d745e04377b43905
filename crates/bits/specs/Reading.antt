-- What each step of the bit reader gives, for every place and width. A place from 2^63 on and a width over 32 are refused before all else.
use Rattle.std.specs.Prelude.{ℕ, ◌+◌, ◌*◌, ◌%◌, ◌^◌, List, Bool, cond, ◌&&◌, leb, ltb, eqb, length}
use Rattle.refusals.specs.Answer.{Answer}
use Rattle.refusals.specs.Answer.Answer.{success, refusal}
use Rattle.refusals.specs.Number.{not_well_formed, stop_bit_missing, stop_bit_zero, alignment_bit_one}
use Rattle.bits.specs.Bits.{bit_at, field_at, ones_from, to_boundary}
use Rattle.bits.specs.Code.{Taken, code_at}
use Rattle.bits.specs.Code.Taken.{taken, refused}

abbrev pub place_good : ℕ → Bool
place_good at = ltb at (2 ^ 63)

-- u(n)
unfoldable pub read_field : List ℕ → ℕ → ℕ → Taken
read_field s at w = cond (leb w 32 && place_good at) (taken (field_at s at w) (at + w)) (refused not_well_formed)

-- ue(v)
unfoldable pub read_code : List ℕ → ℕ → Taken
read_code s at = cond (place_good at) (code_at s at) (refused not_well_formed)

-- the step to the boundary, over bits that are not looked at
unfoldable pub read_alignment : ℕ → Answer ℕ
read_alignment at = cond (place_good at) (success (at + to_boundary at)) (refusal not_well_formed)

-- byte_aligned()
unfoldable pub ask_aligned : ℕ → Answer Bool
ask_aligned at = cond (place_good at) (success (eqb (at % 8) 0)) (refusal not_well_formed)

-- more_rbsp_data(): a one-bit stands behind the place's bit, so that the place lies before the last one-bit, the stop bit
unfoldable pub more_data : List ℕ → ℕ → Bool
more_data s at = leb 1 (ones_from s (at + 1))

unfoldable pub ask_more_data : List ℕ → ℕ → Answer Bool
ask_more_data s at = cond (place_good at) (success (more_data s at)) (refusal not_well_formed)

-- rbsp_trailing_bits(): the stop bit, and zeros to the boundary
unfoldable pub trailing_at : List ℕ → ℕ → Answer ℕ
trailing_at s at =
    cond (ltb at (8 * length s))
    (cond (eqb (bit_at s at) 1)
    (cond (eqb (field_at s (at + 1) (to_boundary (at + 1))) 0)
    (success (at + 1 + to_boundary (at + 1)))
    (refusal alignment_bit_one))
    (refusal stop_bit_zero))
    (refusal stop_bit_missing)

unfoldable pub read_trailing : List ℕ → ℕ → Answer ℕ
read_trailing s at = cond (place_good at) (trailing_at s at) (refusal not_well_formed)
