-- Layers with their reference flags, one by one, each held as the closed mask of those that it reaches.
use Rattle.std.specs.Prelude.{ℕ, zero, suc, ◌+◌, ◌<◌, ◌≤◌, ◌≡◌, refl, List, [], ◌∷◌, ◌++◌, true, length, get_or, set}
use Rattle.std.proofs.Common.{arith, sym, ap, ◌∙◌, subst, length-append}
use Rattle.std.proofs.Math.ListN.{get_or-append}
use Rattle.std.proofs.Math.Seq.{get_or-append_seam}
use Rattle.vps_definition.specs.OutputLayerSets.{with_reached, flagged, refers_by, mask_of}
use Rattle.vps_definition.specs.Vps.{Layers}
use Rattle.layer_sets.specs.Masks.{bit_of, bit_at}
use Rattle.layer_sets.specs.MaskLaws.{mask_bit}
use Rattle.layer_sets.specs.Closed.{Closed, closed_as, closed_more}
use Rattle.layer_sets.specs.Flags.{Held, flagged_short}

abbrev pub layers_of : ℕ → List (List ℕ) → Layers
layers_of least refs = record { least = least; refs = refs }

-- each layer has flags of layers below it only
pub record Below (refs : List (List ℕ)) : Type 0 where
  pub short : (k : ℕ) → length (get_or refs k []) ≤ k

pub refers_below : {refs : List (List ℕ)} → Below refs → (i j : ℕ) → refers_by refs i j ≡ true → j < i
refers_below {refs} B i j e = let l : j < length (get_or refs i []) = flagged_short (get_or refs i []) j e in omega (arith, B.short i)

-- these are the references of i layers, and the closed masks in hand are theirs
pub record Referred (refs : List (List ℕ)) (closed : List ℕ) (i : ℕ) : Type 0 where
  pub count : length refs ≡ i
  pub below : Below refs
  pub masks : Closed (refers_by refs) closed i

pub referred_none : {closed : List ℕ} → Referred [] closed 0
referred_none = record { count = refl; below = record { short = λ k. omega arith }; masks = record { masks = λ k l. absurd (omega arith) } }

-- ── One layer more ────────────────────────────────────────────────────
short_more : (refs : List (List ℕ)) (flags : List ℕ) (b : ℕ) → ((k : ℕ) → length (get_or refs k []) ≤ b + k) → length flags ≤ b + length refs → (k : ℕ) → length (get_or (refs ++ (flags ∷ [])) k []) ≤ b + k
short_more [] flags b h l zero = l
short_more [] flags b h l (suc k) = omega arith
short_more (x ∷ refs) flags b h l zero = h 0
short_more (x ∷ refs) flags b h l (suc k) =
    let r : length (get_or (refs ++ (flags ∷ [])) k []) ≤ suc b + k = short_more refs flags (suc b) (λ i. omega (arith, h (suc i))) (omega arith) k in
    omega arith

module _ (refs : List (List ℕ)) (flags : List ℕ) where
  below_more : Below refs → length flags ≤ length refs → Below (refs ++ (flags ∷ []))
  below_more B l = record { short = λ k. omega (arith, short_more refs flags 0 (λ i. omega (arith, B.short i)) (omega arith) k) }

  refers_same : (k : ℕ) → k < length refs → (l : ℕ) → refers_by refs k l ≡ refers_by (refs ++ (flags ∷ [])) k l
  refers_same k u l = ap (λ (x : List ℕ). flagged x l) (sym (get_or-append refs (flags ∷ []) [] k u))

  refers_new : (l : ℕ) → flagged flags l ≡ refers_by (refs ++ (flags ∷ [])) (length refs) l
  refers_new l = ap (λ (x : List ℕ). flagged x l) (sym (get_or-append_seam refs flags [] []))

-- the mask that `close` stores for layer i, whose flags are those of a mask
pub referred_with : {i mask : ℕ} {refs : List (List ℕ)} {closed closed' : List ℕ} (flags : List ℕ) → i < 64 → i < length closed
    → closed' ≡ set closed i (mask_of 64 (with_reached i (bit_at closed) (bit_of mask)))
    → mask ≡ mask_of 64 (flagged flags) → length flags ≤ i → Referred refs closed i → Referred (refs ++ (flags ∷ [])) closed' (i + 1)
referred_with {i} {mask} {refs} {closed} {closed'} flags u v e H l R =
    record {
      count = length-append refs (flags ∷ []) ∙ omega (arith, R.count);
      below = below_more refs flags R.below (omega (arith, R.count));
      masks =
          subst (λ (m : List ℕ). Closed (refers_by refs') m (i + 1)) (sym e)
          (closed_more (refers_by refs') closed i mask v u
          (closed_as (refers_by refs) (refers_by refs') closed i (λ k l. refers_same refs flags k (omega (arith, R.count))) R.masks)
          (λ j l. ap (λ (x : ℕ). bit_of x j) H ∙ mask_bit 64 _ j l ∙ refers_new refs flags j ∙ ap (λ (k : ℕ). refers_by refs' k j) R.count));
    }
  where
    refs' : List (List ℕ)
    refs' = refs ++ (flags ∷ [])

pub referred_more : {i mask : ℕ} {refs : List (List ℕ)} {closed closed' flags : List ℕ} → i < 64 → i < length closed
    → closed' ≡ set closed i (mask_of 64 (with_reached i (bit_at closed) (bit_of mask)))
    → Held flags mask → length flags ≤ i → Referred refs closed i → Referred (refs ++ (flags ∷ [])) closed' (i + 1)
referred_more u v e H l R = referred_with _ u v e H.bits l R
