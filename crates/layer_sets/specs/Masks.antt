-- Which layers a mask has: its bit j says whether layer j is in the set. `mask_of`, the mask of a property, is the definition's.
use Rattle.std.specs.Prelude.{ℕ, ◌/◌, ◌%◌, ◌^◌, List, Bool, eqb, get_or}

-- bit j of a mask
unfoldable pub bit_of : ℕ → ℕ → Bool
bit_of mask j = eqb (mask / 2 ^ j % 2) 1

-- bit j of the mask at k
unfoldable pub bit_at : List ℕ → ℕ → ℕ → Bool
bit_at masks k j = bit_of (get_or masks k 0) j
