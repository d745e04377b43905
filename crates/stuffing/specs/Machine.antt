-- Removing as a machine over the zeros before each byte, one byte at a time: it gives what the scan gives.
use Rattle.std.specs.Prelude.{ℕ, Bool, cond, ◌&&◌, ◌≡◌, leb, eqb}
use mathlib.Core.List.{List, [], ◌∷◌, ◌++◌}
use Rattle.std.proofs.Math.Bool.{true, false}
use Rattle.std.proofs.Math.Path.{refl, ap}
use Rattle.std.proofs.Common.{◌∙◌, eqb-true}
use Rattle.stuffing.specs.Stuffing.{marked, unstuff, zeros_behind}

-- the 03 behind two zeros
abbrev pub dropped : ℕ → ℕ → Bool
dropped z b = leb 2 z && eqb b 3

abbrev pub kept : ℕ → ℕ → List ℕ
kept z b = cond (dropped z b) [] (b ∷ [])

-- the zeros that end in a byte that is read; behind a dropped one they are counted afresh
abbrev pub zeros_kept : ℕ → ℕ → ℕ
zeros_kept z b = cond (dropped z b) 0 (zeros_behind z b)

-- the zeros that end in the second of two bytes, and whether a byte up to 03 gets one before it there
abbrev pub zeros_in : ℕ → ℕ → ℕ
zeros_in a b = cond (eqb b 0) (cond (eqb a 0) 2 1) 0

abbrev pub more_in : ℕ → ℕ → ℕ
more_in a b = cond (leb 2 (zeros_in a b)) 1 0

-- bytes behind z zeros
unfoldable pub unstuff_behind : ℕ → List ℕ → List ℕ
unstuff_behind z [] = []
unstuff_behind z (b ∷ s) = kept z b ++ unstuff_behind (zeros_kept z b) s

-- the zeros that bytes end in, behind z zeros
unfoldable pub zeros_read : ℕ → List ℕ → ℕ
zeros_read z [] = z
zeros_read z (b ∷ s) = zeros_read (zeros_kept z b) s

-- ── One step of the scan ──────────────────────────────────────────────
pub scan_step : (a b c : ℕ) (s : List ℕ) (t : Bool) → marked a b c ≡ t
    → unstuff (a ∷ b ∷ c ∷ s) ≡ elim t [ true ↦ a ∷ b ∷ unstuff s | false ↦ a ∷ unstuff (b ∷ c ∷ s) ]
unfolding unstuff
scan_step a b c s t e = ap (λ (u : Bool). elim u [ true ↦ a ∷ b ∷ unstuff s | false ↦ a ∷ unstuff (b ∷ c ∷ s) ]) e

-- a first byte other than 00 is kept
pub scan_byte : (a : ℕ) (s : List ℕ) → eqb a 0 ≡ false → unstuff (a ∷ s) ≡ a ∷ unstuff s
unfolding unstuff
scan_byte a [] e = refl
scan_byte a (b ∷ []) e = refl
scan_byte a (b ∷ c ∷ s) e = scan_step a b c s false (rw e)

-- so is a 00 before a byte other than 00
scan_zero : (b : ℕ) (s : List ℕ) → eqb b 0 ≡ false → unstuff (0 ∷ b ∷ s) ≡ 0 ∷ unstuff (b ∷ s)
unfolding unstuff
scan_zero b [] e = refl
scan_zero b (c ∷ s) e = scan_step 0 b c s false (rw e)

-- ── The scan is the machine ───────────────────────────────────────────
-- behind no zero, one and two
record Agrees (s : List ℕ) : Type 0 where
  none : unstuff s ≡ unstuff_behind 0 s
  one : unstuff (0 ∷ s) ≡ 0 ∷ unstuff_behind 1 s
  two : unstuff (0 ∷ 0 ∷ s) ≡ 0 ∷ 0 ∷ unstuff_behind 2 s

agrees_zero : (s : List ℕ) → Agrees s → Agrees (0 ∷ s)
unfolding unstuff_behind
agrees_zero s h = record { none = h.one; one = h.two; two = scan_step 0 0 0 s false refl ∙ ap (λ (l : List ℕ). 0 ∷ l) h.two }

module _ (b : ℕ) (s : List ℕ) (e : eqb b 0 ≡ false) (h : Agrees s) where
  first : unstuff (b ∷ s) ≡ b ∷ unstuff_behind 0 s
  first = scan_byte b s e ∙ ap (λ (l : List ℕ). b ∷ l) h.none

  second : unstuff (0 ∷ b ∷ s) ≡ 0 ∷ b ∷ unstuff_behind 0 s
  second = scan_zero b s e ∙ ap (λ (l : List ℕ). 0 ∷ l) first

  third : (t : Bool) → eqb b 3 ≡ t → unstuff (0 ∷ 0 ∷ b ∷ s) ≡ 0 ∷ 0 ∷ unstuff_behind 2 (b ∷ s)
  unfolding unstuff_behind
  third true q = scan_step 0 0 b s true q ∙ ap (λ (l : List ℕ). 0 ∷ 0 ∷ l) (h.none ∙ rw q)
  third false q = scan_step 0 0 b s false q ∙ ap (λ (l : List ℕ). 0 ∷ l) second ∙ rw (q, e)

  agrees_other : Agrees (b ∷ s)
  unfolding unstuff_behind
  agrees_other = record { none = first ∙ rw e; one = second ∙ rw e; two = third (eqb b 3) refl }

agrees : (s : List ℕ) → Agrees s
unfolding unstuff unstuff_behind
agrees [] = record { none = refl; one = refl; two = refl }
agrees (b ∷ s) = byte (eqb b 0) refl (agrees s) where
  byte : (t : Bool) → eqb b 0 ≡ t → Agrees s → Agrees (b ∷ s)
  byte true e h = rw (eqb-true b 0 e) (agrees_zero s h)
  byte false e h = agrees_other b s e h

pub unstuff_machine : (s : List ℕ) → unstuff s ≡ unstuff_behind 0 s
unstuff_machine s = (agrees s).none
