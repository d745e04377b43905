-- Flags of layers, held as the mask of those that are 1.
use Rattle.std.specs.Prelude.{ℕ, zero, suc, ◌+◌, ◌<◌, ◌≤◌, ◌≡◌, refl, List, [], ◌∷◌, ◌++◌, Bool, true, not, ◌&&◌, ◌||◌, ltb, eqb, length, get_or, take}
use Rattle.std.proofs.Common.{add-zero, arith, sym, ap, ◌∙◌, subst, lt-ltb, eq-eqb, ne_eqb, length-take-le}
use Rattle.std.proofs.lemmas.List.{take_more}
use Rattle.std.proofs.Math.Bool.{or-true, or-false, and-true, and-false}
use Rattle.std.proofs.lemmas.Bool.{false≢true}
use Rattle.std.proofs.Math.Dec.{eqb-zero-suc, eqb-suc-zero, eqb-suc-suc}
use Rattle.vps_definition.specs.Words.{sum}
use Rattle.vps_definition.specs.OutputLayerSets.{flagged, mask_of}
use Rattle.layer_sets.specs.Masks.{bit_of}
use Rattle.layer_sets.specs.MaskLaws.{mask_ext, mask_bit, mask_none, bit_empty}

-- a mask has the layers whose flag is 1, and none is 1 where it is empty
pub record Held (flags : List ℕ) (mask : ℕ) : Type 0 where
  pub bits : mask ≡ mask_of 64 (flagged flags)
  pub some : ltb 0 (sum flags) ≡ not (eqb mask 0)

-- no flag is 1 behind the last
pub flagged_short : (flags : List ℕ) (j : ℕ) → flagged flags j ≡ true → j < length flags
flagged_short [] j e = absurd (false≢true e)
flagged_short (x ∷ flags) zero e = omega arith
flagged_short (x ∷ flags) (suc j) e = let l : j < length flags = flagged_short flags j e in omega arith

pub held_none : Held [] 0
unfolding sum
held_none = record { bits = sym (mask_none 64 _ (λ j. refl)); some = refl }

-- ── One flag more ─────────────────────────────────────────────────────
-- a mask with layer j where v is 1
abbrev pub with_flag : (mask v j : ℕ) → ℕ
with_flag mask v j = mask_of 64 (λ k. bit_of mask k || (eqb v 1 && eqb j k))

flagged_more : (flags : List ℕ) (v k : ℕ) → (flagged flags k || (eqb v 1 && eqb (length flags) k)) ≡ flagged (flags ++ (v ∷ [])) k
flagged_more [] v zero = and-true (eqb v 1)
flagged_more [] v (suc k) = ap (λ (b : Bool). eqb v 1 && b) (eqb-zero-suc k) ∙ and-false (eqb v 1)
flagged_more (x ∷ flags) v zero = ap (λ (b : Bool). eqb x 1 || (eqb v 1 && b)) (eqb-suc-zero (length flags)) ∙ ap (λ (b : Bool). eqb x 1 || b) (and-false (eqb v 1)) ∙ or-false (eqb x 1)
flagged_more (x ∷ flags) v (suc k) = ap (λ (b : Bool). flagged flags k || (eqb v 1 && b)) (eqb-suc-suc (length flags) k) ∙ flagged_more flags v k

-- the mask of flags with one more
pub bits_turn : (flags : List ℕ) (mask v : ℕ) → mask ≡ mask_of 64 (flagged flags) → with_flag mask v (length flags) ≡ mask_of 64 (flagged (flags ++ (v ∷ [])))
bits_turn flags mask v e =
    mask_ext 64 _ _ (λ k l.
    ap (λ (b : Bool). b || (eqb v 1 && eqb (length flags) k)) (ap (λ (x : ℕ). bit_of x k) e ∙ mask_bit 64 _ k l)
    ∙ flagged_more flags v k)

-- behind turn j of a list's flags
pub flags_turn : (flags : List ℕ) (j mask : ℕ) {v mask' : ℕ} → j < length flags → mask ≡ mask_of 64 (flagged (take j flags)) → v ≡ get_or flags j 0 → mask' ≡ with_flag mask v j
    → mask' ≡ mask_of 64 (flagged (take (j + 1) flags))
flags_turn flags j mask {v} l e f g =
    g ∙ ap (with_flag mask v) (sym (length-take-le j flags (omega (arith, l)))) ∙ bits_turn (take j flags) mask v e
    ∙ ap (λ (w : ℕ). mask_of 64 (flagged (take j flags ++ (w ∷ [])))) f ∙ ap (λ (x : List ℕ). mask_of 64 (flagged x)) (sym (take_more flags j 0 l))

sum_more : (flags : List ℕ) (v : ℕ) → sum (flags ++ (v ∷ [])) ≡ sum flags + v
unfolding sum
sum_more [] v = omega arith
sum_more (x ∷ flags) v = omega (arith, sum_more flags v)

module _ (flags : List ℕ) (mask : ℕ) (H : Held flags mask) (room : length flags < 64) where
  bits_more : (v : ℕ) → with_flag mask v (length flags) ≡ mask_of 64 (flagged (flags ++ (v ∷ [])))
  bits_more v = bits_turn flags mask v H.bits

  some_one : (with_flag mask 1 (length flags) ≡ 0 → ⊥)
  some_one e = false≢true (sym (bit_empty (length flags)) ∙ ap (λ (x : ℕ). bit_of x (length flags)) (sym e) ∙ mask_bit 64 _ (length flags) room ∙ all)
    where
      all : (bit_of mask (length flags) || (eqb 1 1 && eqb (length flags) (length flags))) ≡ true
      all = ap (λ (b : Bool). bit_of mask (length flags) || b) (eq-eqb (length flags) (length flags) refl) ∙ or-true (bit_of mask (length flags))

  none_more : with_flag mask 0 (length flags) ≡ mask
  none_more = mask_ext 64 _ _ (λ k l. or-false (bit_of mask k) ∙ ap (λ (x : ℕ). bit_of x k) H.bits ∙ mask_bit 64 _ k l) ∙ sym H.bits

  held_more : (v : ℕ) → v ≤ 1 → Held (flags ++ (v ∷ [])) (with_flag mask v (length flags))
  held_more zero h =
      record {
        bits = bits_more 0;
        some = ap (ltb 0) (sum_more flags 0 ∙ add-zero (sum flags)) ∙ H.some ∙ ap (λ (x : ℕ). not (eqb x 0)) (sym none_more);
      }
  held_more (suc zero) h = record { bits = bits_more 1; some = lt-ltb 0 (sum (flags ++ (1 ∷ []))) (omega (arith, sum_more flags 1)) ∙ sym (ap not (ne_eqb _ 0 some_one)) }
  held_more (suc (suc v)) h = absurd (omega arith)

pub held_turn : {j v mask mask' : ℕ} {flags : List ℕ} → j < 64 → v ≤ 1 → mask' ≡ with_flag mask v j → length flags ≡ j → Held flags mask → Held (flags ++ (v ∷ [])) mask'
held_turn {v = v} {mask = mask} {flags = flags} l h e n H =
    subst (Held (flags ++ (v ∷ []))) (ap (with_flag mask v) n ∙ sym e) (held_more flags mask H (omega (arith, n)) v h)
