-- What each step of the bit writer gives, and what the lent buffer holds afterwards.
use Rattle.std.specs.Prelude.{ℕ, ◌+◌, ◌*◌, ◌^◌, List, ◌∷◌, Bool, cond, ◌&&◌, ◌||◌, leb, ltb, eqb, length, replicate}
use Rattle.refusals.specs.Answer.{Answer}
use Rattle.refusals.specs.Answer.Answer.{success, refusal}
use Rattle.refusals.specs.Number.{not_well_formed, output_too_short}
use Rattle.bits.specs.Bits.{to_boundary, set_bits}
use Rattle.bits.specs.Reading.{place_good}

-- room for n bits: none is asked for no bits
abbrev pub has_room : List ℕ → ℕ → ℕ → Bool
has_room out at n = eqb n 0 || leb (at + n) (8 * length out)

-- bits at a place of a buffer, where `good` says that the call's numbers are in range: the answer
unfoldable pub write_bits : Bool → List ℕ → ℕ → List ℕ → Answer ℕ
write_bits good out at b =
    cond good (cond (has_room out at (length b)) (success (at + length b)) (refusal output_too_short)) (refusal not_well_formed)

-- and the buffer afterwards: those bits and no other are replaced; a refusal leaves it as it was
unfoldable pub buffer_after : Bool → List ℕ → ℕ → List ℕ → List ℕ
buffer_after good out at b = cond (good && has_room out at (length b)) (set_bits out at b) out

-- the numbers of a field and of a code that are in range
abbrev pub field_good : ℕ → ℕ → ℕ → Bool
field_good at v w = leb w 32 && ltb v (2 ^ w) && place_good at

abbrev pub code_good : ℕ → ℕ → Bool
code_good at v = ltb v 4294967295 && place_good at

-- zeros to the boundary
abbrev pub alignment_bits : ℕ → List ℕ
alignment_bits at = replicate (to_boundary at) 0

-- rbsp_trailing_bits(): the stop bit, and zeros to the boundary
abbrev pub trailing_bits : ℕ → List ℕ
trailing_bits at = 1 ∷ alignment_bits (at + 1)
