-- Byte stuffing: emulation_prevention_three_byte of H.266 clauses 7.3.1.1 and 7.4.2.
use Rattle.std.specs.Prelude.{ℕ, ◌+◌, List, [], ◌∷◌, ◌++◌, Bool, true, false, cond, ◌&&◌, leb, ltb, eqb}

-- ── Removing ──────────────────────────────────────────────────────────
-- 00 00 03
abbrev pub marked : ℕ → ℕ → ℕ → Bool
marked a b c = eqb a 0 && eqb b 0 && eqb c 3

-- a scan from the left that drops the 03 of each 00 00 03, also at the end, and starts anew behind it
unfoldable pub unstuff : List ℕ → List ℕ
unstuff [] = []
unstuff (a ∷ []) = a ∷ []
unstuff (a ∷ b ∷ []) = a ∷ b ∷ []
unstuff (a ∷ b ∷ c ∷ s) = elim (marked a b c) [ true ↦ a ∷ b ∷ unstuff s | false ↦ a ∷ unstuff (b ∷ c ∷ s) ]

-- ── Adding ────────────────────────────────────────────────────────────
-- the zeros that end in a byte, behind z zeros: counted up to two
abbrev pub zeros_behind : ℕ → ℕ → ℕ
zeros_behind z b = cond (eqb b 0) (cond (ltb z 2) (z + 1) 2) 0

-- a byte of at most 03 that follows two zeros
abbrev pub guarded : ℕ → ℕ → Bool
guarded z b = leb 2 z && leb b 3

-- a guarded byte gets a 03 before it, behind which the zeros are counted afresh
abbrev pub added : ℕ → ℕ → List ℕ
added z b = cond (guarded z b) (3 ∷ b ∷ []) (b ∷ [])

abbrev pub zeros_added : ℕ → ℕ → ℕ
zeros_added z b = zeros_behind (cond (guarded z b) 0 z) b

-- bytes behind z zeros; at the end a 03 after two zeros
unfoldable pub stuff_behind : ℕ → List ℕ → List ℕ
stuff_behind z [] = cond (leb 2 z) (3 ∷ []) []
stuff_behind z (b ∷ s) = added z b ++ stuff_behind (zeros_added z b) s

unfoldable pub stuff : List ℕ → List ℕ
stuff s = stuff_behind 0 s
