-- Section lookup: each section of a well-formed record lies inside it, and what lookup gives by its cases.
use Rattle.std.specs.Prelude.{ℕ, zero, suc, ◌+◌, ◌-◌, ◌≤◌, ◌<◌, ◌≡◌, List, Bool, length}
use Rattle.std.proofs.Math.Path.{refl}
use Rattle.std.proofs.Common.{lit<}
use Rattle.std.proofs.Math.Bool.{true, false}
use native.Mathlib.Omega.{arith}
use borrow.Author.Tests.{lt-ltb, ltb-true, ltb-false}
use Rattle.std.proofs.Math.Dec.{ltb}
use Rattle.vps_definition.specs.Syntax.{Token, numbers}
use Rattle.vps_definition.specs.Record.{record_of, start_of, end_of}
use Rattle.vps_definition.specs.Lookup.{section_start, section_end}
use Rattle.vps_laws.specs.Marks.{marks, starts_length, starts_most, starts_rise, start_listed}
use Rattle.vps_laws.specs.Bound.{tokens_length, record_numbers}

-- a part of a list, from a start up to an end
pub record Inside (r : List ℕ) (start end : ℕ) : Type 0 where
  pub rises : start ≤ end
  pub ends : end ≤ length r

-- ── The sections of a record ──────────────────────────────────────────
module _ (g : List ℕ) (t : List Token) (e : List ℕ) (nine : length g ≡ 9) (seven : marks t ≡ 7) where
  abbrev pub r : List ℕ
  r = record_of g t e

  long : length r ≡ 9 + length (numbers t) + 1 + length e + 8
  long = omega (arith, record_numbers g t e, tokens_length 9 t, starts_length 9 t, nine, seven)

  most : (k : ℕ) → k < 7 → start_of r (suc k) ≤ length r - 8
  most k h = omega (arith, start_listed g t e nine seven k h, starts_most 9 t k, long)

  end_listed : (k : ℕ) → k < 8 → end_of r k ≡ start_of r (suc k)
  unfolding end_of
  end_listed k h = rw (lt-ltb k 8 h) refl

  trailer_start : start_of r 8 ≡ length r - 8
  unfolding start_of
  trailer_start = refl

  pub parts_inside : (k : ℕ) → k ≤ 8 → Inside r (start_of r k) (end_of r k)
  parts_inside zero h = record { rises = unfold start_of in omega arith; ends = omega (arith, end_listed 0 (lit< tt), most 0 (lit< tt)) }
  parts_inside (suc k) h = go (ltb k 6) refl (ltb k 7) refl
    where
      go : (b : Bool) → ltb k 6 ≡ b → (c : Bool) → ltb k 7 ≡ c → Inside r (start_of r (suc k)) (end_of r (suc k))
      go true f c g' =
          let l : k < 6 = ltb-true k 6 f in
          record {
            rises = omega (arith, end_listed (suc k) (omega (arith, l)), start_listed g t e nine seven k (omega (arith, l)), start_listed g t e nine seven (suc k) (omega (arith, l)), starts_rise 9 t k (omega (arith, l, seven)));
            ends = omega (arith, end_listed (suc k) (omega (arith, l)), most (suc k) (omega (arith, l)));
          }
      go false f true g' =
          let i : k ≡ 6 = omega (arith, ltb-false k 6 f, ltb-true k 7 g') in
          rw i (record { rises = omega (arith, end_listed 7 (lit< tt), trailer_start, most 6 (lit< tt)); ends = omega (arith, end_listed 7 (lit< tt), trailer_start) })
      go false f false g' =
          let i : k ≡ 7 = omega (arith, ltb-false k 7 g', h) in
          rw i (record { rises = unfold end_of in omega (arith, trailer_start); ends = unfold end_of in omega arith })

-- ── Lookup, by its cases ──────────────────────────────────────────────
-- where a section starts and ends
abbrev pub Found : (r : List ℕ) (k start end : ℕ) → Type 0
Found r k start end = (start ≡ section_start r k) × (end ≡ section_end r k)
