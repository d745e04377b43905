-- Bits of a list of bytes, most significant bit first, and fields of them: u(n) of H.266 clause 7.2.
use Rattle.std.specs.Prelude.{ℕ, zero, suc, ◌+◌, ◌*◌, ◌-◌, ◌/◌, ◌%◌, ◌^◌, List, [], ◌∷◌, ◌++◌, cond, ltb, length, get_or, set}

-- the weight of the bit at a place within its byte
abbrev pub weight : ℕ → ℕ
weight at = 2 ^ (7 - at % 8)

-- the bit at a place; 0 past the end
unfoldable pub bit_at : List ℕ → ℕ → ℕ
bit_at s at = get_or s (at / 8) 0 / weight at % 2

-- the number whose w bits stand from a place on
unfoldable pub field_at : List ℕ → ℕ → ℕ → ℕ
field_at s at zero = 0
field_at s at (suc w) = field_at s at w * 2 + bit_at s (at + w)

-- the width of a field that any number asks for: 32 bits at the most
abbrev pub field_width : ℕ → ℕ
field_width w = cond (ltb w 32) w 32

-- how many of the n bits from a place on are ones
unfoldable pub ones_at : List ℕ → ℕ → ℕ → ℕ
ones_at s at zero = 0
ones_at s at (suc n) = ones_at s at n + bit_at s (at + n)

-- and how many of all from a place on
abbrev pub ones_from : List ℕ → ℕ → ℕ
ones_from s at = ones_at s at (8 * length s - at)

-- how many bits there are to the next byte boundary: none at one
abbrev pub to_boundary : ℕ → ℕ
to_boundary at = (8 - at % 8) % 8

-- the other way: the w lowest bits of v, the highest of them first
unfoldable pub bits_of : ℕ → ℕ → List ℕ
bits_of zero v = []
bits_of (suc w) v = bits_of w (v / 2) ++ (v % 2 ∷ [])

-- a byte whose bit of weight m is b, and is otherwise x
abbrev pub with_bit : ℕ → ℕ → ℕ → ℕ
with_bit x m b = x - x / m % 2 * m + b * m

-- the bytes with another bit at a place
unfoldable pub set_bit : List ℕ → ℕ → ℕ → List ℕ
set_bit s at b = set s (at / 8) (with_bit (get_or s (at / 8) 0) (weight at) b)

-- the bytes with other bits from a place on
unfoldable pub set_bits : List ℕ → ℕ → List ℕ → List ℕ
set_bits s at [] = s
set_bits s at (b ∷ bs) = set_bits (set_bit s at b) (at + 1) bs

-- bits into bytes, eight at a time; fewer than eight at the end make no byte
unfoldable pub pack : List ℕ → List ℕ
pack (a ∷ b ∷ c ∷ d ∷ e ∷ f ∷ g ∷ h ∷ r) = (((((((a * 2 + b) * 2 + c) * 2 + d) * 2 + e) * 2 + f) * 2 + g) * 2 + h) ∷ pack r
pack [] = []
pack (a ∷ []) = []
pack (a ∷ b ∷ []) = []
pack (a ∷ b ∷ c ∷ []) = []
pack (a ∷ b ∷ c ∷ d ∷ []) = []
pack (a ∷ b ∷ c ∷ d ∷ e ∷ []) = []
pack (a ∷ b ∷ c ∷ d ∷ e ∷ f ∷ []) = []
pack (a ∷ b ∷ c ∷ d ∷ e ∷ f ∷ g ∷ []) = []
