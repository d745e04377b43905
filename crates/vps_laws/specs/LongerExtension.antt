-- Extension bits up to the last one-bit: what was read as extension before that rule, and which answers changed with it.
use Prim.Native.Nat.{ℕ, zero, suc, ◌+◌, ◌*◌, ◌-◌, ◌≤◌, ◌<◌}
use Rattle.std.specs.Prelude.{◌≡◌, List, [], ◌∷◌, ◌++◌, Bool, leb, ltb}
use Rattle.std.proofs.Math.Path.{refl}
use Rattle.std.proofs.Common.{add-zero, leb-true, leb-false, ltb-true, ltb-false, lt-ltb, ne_eqb}
use Rattle.std.proofs.Math.Bool.{true, false}
use native.Mathlib.Omega.{arith}
use Rattle.std.proofs.lemmas.Bool.{lt-leb}
use Rattle.std.proofs.Math.Dec.{eqb}
use Rattle.std.proofs.Math.ListN.{length, get_or}
use Rattle.refusals.specs.Answer.Answer.{success, refusal}
use Rattle.refusals.specs.Number.{stop_bit_zero}
use Rattle.bits.specs.Bits.{bit_at, ones_from, to_boundary}
use Rattle.bits.specs.Reading.{trailing_at}
use Rattle.bits.specs.OneLaws.{LastOne, ones_past_end, ones_here, ones_fall, field_without_ones, last_inside}
use Rattle.bits.specs.TrailingLaws.{trailing_read}
use Rattle.vps_definition.specs.Rules.{Rules}
use Rattle.vps_definition.specs.Syntax.{Outcome, run}
use Rattle.vps_definition.specs.Syntax.Outcome.{accepted, refused}
use Rattle.vps_definition.specs.Vps.{vps_under}
use Rattle.vps_definition.specs.Record.{record_of}
use Rattle.vps_definition.specs.Layout.{extension_in}
use Rattle.vps_definition.specs.Reading.{Reading, bits_at, ended, unit_by}
use Rattle.vps_definition.specs.Reading.Reading.{accepts, refuses}

-- ── The rule of before ────────────────────────────────────────────────
-- two one-bits remain
unfoldable pub more_data_before : List ℕ → ℕ → Bool
more_data_before s at = leb 2 (ones_from s at)

unfoldable pub data_bits_before : List ℕ → ℕ → ℕ → ℕ
data_bits_before s at zero = 0
data_bits_before s at (suc n) = elim (more_data_before s at) [ true ↦ suc (data_bits_before s (at + 1) n) | false ↦ 0 ]

unfoldable pub extension_bits_before : (flag : ℕ) → List ℕ → ℕ → ℕ
extension_bits_before flag s at = elim (eqb flag 0) [ true ↦ 0 | false ↦ data_bits_before s at (8 * length s - at) ]

unfoldable pub closed_before : List ℕ → Outcome (List ℕ) → Reading
closed_before s (accepted general t at) =
    let n = extension_bits_before (get_or general 8 0) s at in
    ended (record_of general t (bits_at s at n)) (trailing_at s (at + n))
closed_before s (refused n t) = refuses n

unfoldable pub rbsp_with_shorter_extension : Rules → List ℕ → Reading
rbsp_with_shorter_extension rules s = closed_before s (run (vps_under rules) s 0)

abbrev pub unit_with_shorter_extension : Rules → List ℕ → Reading
unit_with_shorter_extension rules = unit_by (rbsp_with_shorter_extension rules)

-- ── Where it stopped ──────────────────────────────────────────────────
-- with fewer than two ones left
pub stopped : (s : List ℕ) (at n : ℕ) → n ≡ 8 * length s - at → ones_from s (at + data_bits_before s at n) < 2
unfolding data_bits_before more_data_before
stopped s at zero e = rw (add-zero at) (omega (arith, ones_past_end s at (omega arith)))
stopped s at (suc n) e = go (stopped s (at + 1) n (omega arith)) (leb 2 (ones_from s at)) refl
  where
    go : ones_from s (at + 1 + data_bits_before s (at + 1) n) < 2 → (b : Bool) → leb 2 (ones_from s at) ≡ b
        → ones_from s (at + elim b as (λ d. ℕ) [ true ↦ suc (data_bits_before s (at + 1) n) | false ↦ 0 ]) < 2
    go h true f = let q : at + suc (data_bits_before s (at + 1) n) ≡ at + 1 + data_bits_before s (at + 1) n = omega arith in rw q h
    go h false f = rw (add-zero at) (omega (arith, leb-false 2 (ones_from s at) f))

-- at the last one, or before it
pub not_beyond : (s : List ℕ) (at n p : ℕ) → LastOne s p → at ≤ p → at + data_bits_before s at n ≤ p
unfolding data_bits_before more_data_before
not_beyond s at zero p L l = omega arith
not_beyond s at (suc n) p L l = go (not_beyond s (at + 1) n p L) (leb 2 (ones_from s at)) refl
  where
    go : (at + 1 ≤ p → at + 1 + data_bits_before s (at + 1) n ≤ p) → (b : Bool) → leb 2 (ones_from s at) ≡ b
        → at + elim b as (λ d. ℕ) [ true ↦ suc (data_bits_before s (at + 1) n) | false ↦ 0 ] ≤ p
    go h true f =
        let m : at < p = apart (ltb at p) refl (leb-true 2 (ones_from s at) f) in
        omega (arith, h (omega arith))
      where
        apart : (b : Bool) → ltb at p ≡ b → 2 ≤ ones_from s at → at < p
        apart true g h = ltb-true at p g
        apart false g h = absurd (omega (arith, h, ones_fall s p at (ltb-false at p g), ones_here s p, L.one, L.none))
    go h false f = omega arith

pub none_before : (s : List ℕ) (at n : ℕ) → ones_from s at ≡ 0 → data_bits_before s at n ≡ 0
unfolding data_bits_before more_data_before
none_before s at zero h = refl
none_before s at (suc n) h = rw (lt-leb 2 (ones_from s at) (omega arith), data_bits_before) refl

-- between that place and the last one there are zeros
pub zero_between : (s : List ℕ) (p q k : ℕ) → LastOne s p → ones_from s q < 2 → q ≤ k → k < p → bit_at s k ≡ 0
zero_between s p q k L h l m =
    omega (arith, h, ones_fall s q k l, ones_here s k, ones_fall s (k + 1) p (omega arith), ones_here s p, L.one)

-- ── The trailing bits ─────────────────────────────────────────────────
-- the last one is a stop bit
pub trails_last : (s : List ℕ) (p : ℕ) → LastOne s p → trailing_at s p ≡ success (p + 1 + to_boundary (p + 1))
trails_last s p L =
    trailing_read s p (p + 1 + to_boundary (p + 1)) (record { inside = last_inside s p L; stop = L.one; zeros = field_without_ones s (p + 1) (to_boundary (p + 1)) L.none; behind = refl })

-- a 0 is none
pub no_stop : (s : List ℕ) (at : ℕ) → at < 8 * length s → bit_at s at ≡ 0 → trailing_at s at ≡ refusal stop_bit_zero
unfolding trailing_at
no_stop s at l z = rw (lt-ltb at (8 * length s) l, ne_eqb (bit_at s at) 1 (λ e. omega (arith, z, e))) refl

-- ── A unit ────────────────────────────────────────────────────────────
-- the answer beside the one of before: the same, or a record with extension flag 1 and extension bits that end in 0, where it was 28
pub data Longer : (now before : Reading) → Type 0 where
  as_before : {R : Reading} → Longer R R
  ends_in_zero : (r : List ℕ) (n : ℕ) → get_or r 8 0 ≡ 1 → (e : List ℕ) → extension_in r ≡ e ++ (0 ∷ []) → Longer (accepts r n) (refuses stop_bit_zero)
