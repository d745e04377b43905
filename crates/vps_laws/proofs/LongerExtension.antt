-- Extension bits up to the last one-bit: what was read as extension before that rule, and which answers changed with it.
use Prim.Native.Nat.{ℕ, suc, ◌+◌, ◌*◌, ◌-◌, ◌≤◌, ◌<◌}
use Rattle.std.specs.Prelude.{◌≡◌, List, [], ◌∷◌, ◌++◌, Bool, leb, ltb}
use Rattle.std.proofs.Math.Path.{refl, ap}
use Rattle.std.proofs.Common.{◌∙◌, leb-true, leb-false, ltb-true, ltb-false, lit<}
use Rattle.std.proofs.Math.Bool.{true, false}
use native.Mathlib.Omega.{arith}
use Rattle.std.proofs.lemmas.Bool.{eqb-false}
use Rattle.std.proofs.Math.Dec.{eqb}
use Rattle.std.proofs.Math.ListN.{length, get_or}
use Rattle.bits.specs.Bits.{bit_at, ones_from}
use Rattle.bits.specs.Reading.{trailing_at}
use Rattle.bits.specs.OneLaws.{LastOne, last_one, last_inside}
use Rattle.vps_definition.specs.Rules.{Rules}
use Rattle.vps_definition.specs.Syntax.{Token, Outcome, run}
use Rattle.vps_definition.specs.Syntax.Outcome.{accepted, refused}
use Rattle.vps_definition.specs.Vps.{vps_under}
use Rattle.vps_definition.specs.Record.{record_of}
use Rattle.vps_definition.specs.Reading.{Reading, bits_at, data_bits, extension_bits, ended, closed, read_rbsp_under, read_unit_under}
use Rattle.vps_laws.specs.Extension.{bits_at_last, data_to_last, data_without_ones}
use Rattle.vps_laws.specs.Accepted.{General}
use Rattle.vps_laws.proofs.Accepted.{general_read}
use Rattle.vps_laws.specs.Laid.{record_number}
use Rattle.vps_laws.proofs.Laid.{record_extension}
use Rattle.vps_laws.specs.Compared.{unit_both}
use Rattle.vps_laws.specs.LongerExtension.{data_bits_before, extension_bits_before, closed_before, rbsp_with_shorter_extension, unit_with_shorter_extension, stopped, not_beyond, none_before, zero_between, trails_last, no_stop, Longer}
use Rattle.vps_laws.specs.LongerExtension.Longer.{as_before, ends_in_zero}

module _ (rules : Rules) (s general : List ℕ) (t : List Token) (at : ℕ) (reads : run (vps_under rules) s 0 ≡ accepted general t at) where
  -- what is answered where so many bits are read as extension
  abbrev with_bits : ℕ → Reading
  with_bits n = ended (record_of general t (bits_at s at n)) (trailing_at s (at + n))

  G : General general
  G = general_read rules s general t at reads

  -- up to the last one, and up to a place before it
  fewer : (p b : ℕ) → (get_or general 8 0 ≡ 0 → ⊥) → LastOne s p → ones_from s (at + b) < 2 → at + b < p → Longer (with_bits (p - at)) (with_bits b)
  unfolding ended
  fewer p b f L h l =
      let c : ℕ = p - at - 1 in
      let d : p - at ≡ suc c = omega arith in
      let q : at + (p - at) ≡ p = omega arith in
      let z : bit_at s (at + c) ≡ 0 = zero_between s p (at + b) (at + c) L h (omega arith) (omega arith) in
      let w : bits_at s at (p - at) ≡ bits_at s at c ++ (0 ∷ []) = ap (bits_at s at) d ∙ bits_at_last s at c ∙ ap (λ (v : ℕ). bits_at s at c ++ (v ∷ [])) z in
      let y = no_stop s (at + b) (omega (arith, last_inside s p L)) (zero_between s p (at + b) (at + b) L h (omega arith) l) in
      let x = ap (trailing_at s) q ∙ trails_last s p L in
      let v : get_or general 8 0 ≡ 1 = omega (arith, f, G.flag) in
      rw (x, y, ended) (ends_in_zero _ _ (record_number general t (bits_at s at (p - at)) 8 G.nine (lit< tt) ∙ v) (bits_at s at c) (record_extension rules s general t at (bits_at s at (p - at)) reads ∙ w))

  data_longer : (get_or general 8 0 ≡ 0 → ⊥) → Longer (with_bits (data_bits s at (8 * length s - at))) (with_bits (data_bits_before s at (8 * length s - at)))
  data_longer f = go (leb 1 (ones_from s at)) refl
    where
      n : ℕ
      n = 8 * length s - at

      up_to : (p b : ℕ) → LastOne s p → at ≤ p → ones_from s (at + b) < 2 → at + b ≤ p → Longer (with_bits (p - at)) (with_bits b)
      up_to p b L l h m = by (ltb (at + b) p) refl
        where
          by : (c : Bool) → ltb (at + b) p ≡ c → Longer (with_bits (p - at)) (with_bits b)
          by true e = fewer p b f L h (ltb-true (at + b) p e)
          by false e = let q : p - at ≡ b = omega (arith, ltb-false (at + b) p e) in rw q as_before

      go : (c : Bool) → leb 1 (ones_from s at) ≡ c → Longer (with_bits (data_bits s at n)) (with_bits (data_bits_before s at n))
      go true e =
          let P = last_one s at (leb-true 1 (ones_from s at) e) in
          let p : ℕ = P.0 in
          rw (data_to_last s at n p refl P.1.1) (up_to p (data_bits_before s at n) P.1.1 P.1.0 (stopped s at n refl) (not_beyond s at n p P.1.1 P.1.0))
      go false e =
          let z : ones_from s at ≡ 0 = omega (arith, leb-false 1 (ones_from s at) e) in
          rw (data_without_ones s at n z, none_before s at n z) as_before

  closed_longer : Longer (closed s (accepted general t at)) (closed_before s (accepted general t at))
  unfolding closed closed_before extension_bits extension_bits_before
  closed_longer = go (eqb (get_or general 8 0) 0) refl
    where
      go : (c : Bool) → eqb (get_or general 8 0) 0 ≡ c
          → Longer (with_bits (elim c as (λ d. ℕ) [ true ↦ 0 | false ↦ data_bits s at (8 * length s - at) ])) (with_bits (elim c as (λ d. ℕ) [ true ↦ 0 | false ↦ data_bits_before s at (8 * length s - at) ]))
      go true e = as_before
      go false e = data_longer (eqb-false (get_or general 8 0) 0 e)

rbsp_longer : (rules : Rules) (s : List ℕ) → Longer (read_rbsp_under rules s) (rbsp_with_shorter_extension rules s)
unfolding read_rbsp_under rbsp_with_shorter_extension
rbsp_longer rules s = go (run (vps_under rules) s 0) refl
  where
    go : (R : Outcome (List ℕ)) → run (vps_under rules) s 0 ≡ R → Longer (closed s R) (closed_before s R)
    go (accepted general t at) e = closed_longer rules s general t at e
    go (refused n t) e = unfold closed closed_before in as_before

pub answer_longer : (rules : Rules) (u : List ℕ) → Longer (read_unit_under rules u) (unit_with_shorter_extension rules u)
answer_longer rules u = unit_both (λ s now before. Longer now before) (λ s R. as_before) (read_rbsp_under rules) (rbsp_with_shorter_extension rules) (rbsp_longer rules) u
