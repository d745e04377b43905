-- The last one-bit that is found is the last, and more_rbsp_data() goes by it: one comparison, once the place is known.
use Rattle.std.specs.Prelude.{ℕ, zero, suc, ◌+◌, ◌*◌, ◌≤◌, ◌≡◌, refl, List, Bool, true, false, eqb, ltb, length}
use Rattle.std.proofs.Common.{sym, ap, ◌∙◌, add-one, arith, eqb-true, ltb-true, ltb-false, lt-ltb, Option, None, Some}
use Rattle.std.proofs.lemmas.Bool.{eqb-false, false≢true}
use Rattle.bits.specs.Bits.{bit_at, ones_from}
use Rattle.bits.specs.Reading.{more_data}
use Rattle.bits.specs.FieldLaws.{bit_lt}
use Rattle.bits.specs.OneLaws.{LastOne, ones_past_end, ones_here, ones_fall, more_before_last, more_without_ones}
use Rattle.bits.specs.LastOne.{last_one_among, last_one_of, Found, is_before_last, LastAndMore}

-- ── What is found ─────────────────────────────────────────────────────
-- behind n bits there is no one-bit
among : (s : List ℕ) (n : ℕ) → ones_from s n ≡ 0 → Found s (last_one_among s n)
unfolding last_one_among
among s zero z = z
among s (suc n) z = go (eqb (bit_at s n) 1) refl (among s n)
  where
    behind : ones_from s (n + 1) ≡ 0
    behind = rw (add-one n) z

    go : (b : Bool) → eqb (bit_at s n) 1 ≡ b → (ones_from s n ≡ 0 → Found s (last_one_among s n)) → Found s (elim b [ true ↦ Some n | false ↦ last_one_among s n ])
    go true e k = record { one = eqb-true (bit_at s n) 1 e; none = behind }
    go false e k = k (omega (arith, behind, ones_here s n, bit_lt s n, eqb-false (bit_at s n) 1 e))

pub last_one_found : (s : List ℕ) → Found s (last_one_of s)
last_one_found s = among s (8 * length s) (ones_past_end s (8 * length s) (omega arith))

-- there are no two
pub found_once : (s : List ℕ) (a b : Option ℕ) → Found s a → Found s b → a ≡ b
found_once s None None f g = refl
found_once s None (Some q) f g = absurd (omega (arith, f, ones_fall s 0 q (omega arith), ones_here s q, g.one))
found_once s (Some p) None f g = absurd (omega (arith, g, ones_fall s 0 p (omega arith), ones_here s p, f.one))
found_once s (Some p) (Some q) f g = ap Some (omega (arith, order p q f g, order q p g f))
  where
    order : (p q : ℕ) → LastOne s p → LastOne s q → q ≤ p
    order p q f g = go (ltb p q) refl
      where
        go : (b : Bool) → ltb p q ≡ b → q ≤ p
        go true e = absurd (omega (arith, f.none, g.one, ltb-true p q e, ones_fall s (p + 1) q (omega (arith, ltb-true p q e)), ones_here s q))
        go false e = ltb-false p q e

-- ── more_rbsp_data() ──────────────────────────────────────────────────
pub more_by_last : (s : List ℕ) (at : ℕ) (found : Option ℕ) → Found s found → more_data s at ≡ is_before_last at found
more_by_last s at None f = more_without_ones s at (omega (arith, f, ones_fall s 0 at (omega arith)))
more_by_last s at (Some p) f = more_before_last s p at f

pub more_data_iff_before_last_one : (s : List ℕ) (at : ℕ) → LastAndMore s at (last_one_of s)
more_data_iff_before_last_one s at = go (last_one_of s) (last_one_found s)
  where
    go : (found : Option ℕ) → Found s found → LastAndMore s at found
    go None f = record {
      last = λ k. omega (arith, f, ones_fall s 0 k (omega arith), ones_here s k);
      more = (λ h. false≢true (sym (more_by_last s at None f) ∙ h), λ x. absurd x);
    }
    go (Some p) f = record {
      last = (f.one, λ k l. omega (arith, f.none, ones_fall s (p + 1) k (omega arith), ones_here s k));
      more = (λ h. ltb-true at p (sym (more_before_last s p at f) ∙ h), λ l. more_before_last s p at f ∙ lt-ltb at p l);
    }
