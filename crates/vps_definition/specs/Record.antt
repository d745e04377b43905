-- The record: the General section, six sections that the table keeps, the extension, and a trailer that points back.
use Rattle.std.specs.Prelude.{ℕ, zero, suc, ◌+◌, ◌-◌, List, [], ◌∷◌, ◌++◌, cond, ltb, length, get_or}
use Rattle.vps_definition.specs.Syntax.{Token, numbers, starts}

-- everything before the trailer
unfoldable pub body_of : (general : List ℕ) → List Token → (extension : List ℕ) → List ℕ
body_of general t extension = general ++ numbers t ++ (length extension ∷ extension)

-- the starts of the seven sections after General, and the total length
unfoldable pub record_of : (general : List ℕ) → List Token → (extension : List ℕ) → List ℕ
record_of general t extension = body_of general t extension ++ starts 9 t ++ ((length (body_of general t extension) + 8) ∷ [])

-- number k of the trailer
abbrev pub trailer_at : List ℕ → ℕ → ℕ
trailer_at r k = get_or r (length r - 8 + k) 0

-- where section k starts, and where it ends: 0 is General, 1 to 7 are in the trailer, and 8 is the trailer
unfoldable pub start_of : List ℕ → ℕ → ℕ
start_of r zero = 0
start_of r (suc k) = cond (ltb k 7) (trailer_at r k) (length r - 8)

unfoldable pub end_of : List ℕ → ℕ → ℕ
end_of r k = cond (ltb k 8) (start_of r (suc k)) (length r)
