-- The line of a set by its mask.
use Rattle.std.specs.Prelude.{ℕ, zero, suc, ◌+◌, ◌-◌, ◌≤◌, ◌<◌, ◌≡◌, refl, List, ◌++◌, [], ◌∷◌, Bool, true, false, cond, ltb, get_or}
use Rattle.std.proofs.Common.{sym, ap, ◌∙◌, arith, add-one}
use Rattle.texts.specs.Bytes.{bytes}
use Rattle.vps_definition.specs.OutputLayerSets.{count_below, in_set, total_num_olss, num_layers_in_ols, set_mask}
use Rattle.vps_definition.specs.Writing.{well_formed}
use Rattle.vps_definition.specs.Views.{refs_of, sets_of}
use Rattle.vps_laws.specs.OutputLayerSets.{count_ext}
use Rattle.layer_sets.specs.Masks.{bit_of}
use Rattle.layer_sets.specs.MaskLaws.{mask_bit}
use Rattle.layer_sets.specs.Closed.{count_cut}
use Rattle.record_sets.specs.Few.{few_layers, set_low}
use Rattle.layer_page.specs.Page.{place, places, columns, line, set_line, set_lines}

places_ext : (n : ℕ) (p q : ℕ → Bool) (j : ℕ) → ((i : ℕ) → i < j → p i ≡ q i) → places n p j ≡ places n q j
unfolding places place
places_ext n p q zero h = refl
places_ext n p q (suc j) h = λ i. places_ext n p q j (λ k l. h k (omega (arith, l))) i ++ (cond (ltb j n) (cond (h j (omega arith) i) 35 46) 32 ∷ [])

-- of a well-formed record's set i
module _ (r : List ℕ) (w : well_formed r ≡ true) (i : ℕ) (l : i < total_num_olss (get_or r 0 0) (sets_of r)) where
  abbrev pub is_in : ℕ → Bool
  is_in = in_set (get_or r 0 0) (refs_of r) (sets_of r) i

  -- no layer is in it that the record doesn't have
  out : (j : ℕ) → get_or r 0 0 ≤ j → is_in j ≡ false
  out j h = go (is_in j) refl
    where
      go : (b : Bool) → is_in j ≡ b → b ≡ false
      go true e = absurd (omega (arith, h, set_low r w i l j e))
      go false e = refl

  module _ {mask : ℕ} (e : mask ≡ set_mask (get_or r 0 0) (refs_of r) (sets_of r) i) where
    bits : (j : ℕ) → j < 64 → bit_of mask j ≡ is_in j
    unfolding set_mask
    bits j h = ap (λ (m : ℕ). bit_of m j) e ∙ mask_bit 64 is_in j h

    -- the mask's ones are its layers
    counted : count_below 64 (bit_of mask) ≡ num_layers_in_ols (get_or r 0 0) (refs_of r) (sets_of r) i
    unfolding num_layers_in_ols
    counted =
        let n : ℕ = get_or r 0 0 in
        let k : 64 ≡ n + (64 - n) = omega (arith, (few_layers r w).1) in
        count_ext 64 (bit_of mask) is_in bits ∙ ap (λ (m : ℕ). count_below m is_in) k ∙ count_cut n (64 - n) is_in out

    -- a line more
    pub line_more : {n : ℕ} → n ≡ get_or r 0 0 → set_lines (get_or r 0 0) (refs_of r) (sets_of r) i ++ line i (count_below 64 (bit_of mask)) n (bit_of mask) ≡ set_lines (get_or r 0 0) (refs_of r) (sets_of r) (i + 1)
    unfolding set_lines set_line line bytes
    line_more f =
        (λ k. set_lines (get_or r 0 0) (refs_of r) (sets_of r) i ++ (columns i (counted k) ++ places (f k) (bit_of mask) 64 ++ (10 ∷ [])))
        ∙ (λ k. set_lines (get_or r 0 0) (refs_of r) (sets_of r) i ++ (columns i (num_layers_in_ols (get_or r 0 0) (refs_of r) (sets_of r) i) ++ places_ext (get_or r 0 0) (bit_of mask) is_in 64 bits k ++ (10 ∷ [])))
        ∙ ap (set_lines (get_or r 0 0) (refs_of r) (sets_of r)) (sym (add-one i))
