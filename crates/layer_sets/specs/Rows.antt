-- Rows of output layers, one by one, counted where they have more than one layer.
use Rattle.std.specs.Prelude.{ℕ, zero, suc, ◌+◌, ◌≤◌, ◌≡◌, refl, List, [], ◌∷◌, ◌++◌, Bool, true, false, ltb, length, get_or}
use Rattle.std.proofs.Common.{arith, add_comm, add_assoc, add-one, sym, ap, ap₂, ◌∙◌, length-append}
use Rattle.std.proofs.Math.ListN.{get_or-append}
use Rattle.std.proofs.Math.Seq.{get_or-append_seam}
use Rattle.vps_definition.specs.OutputLayerSets.{digit, count_below, with_reached, flagged, mask_of}
use Rattle.vps_laws.specs.OutputLayerSets.{count_ext}
use Rattle.layer_sets.specs.Masks.{bit_of, bit_at}
use Rattle.layer_sets.specs.Flags.{Held}

-- the layers of a mask, with what they reach by the closed masks, are more than one
abbrev pub several : (closed : List ℕ) (n mask : ℕ) → Bool
several closed n mask = ltb 1 (count_below 64 (bit_of (mask_of 64 (with_reached n (bit_at closed) (bit_of mask)))))

abbrev pub several_in : (closed : List ℕ) (n : ℕ) → List (List ℕ) → ℕ → Bool
several_in closed n rows k = several closed n (mask_of 64 (flagged (get_or rows k [])))

-- rows of n flags at the most: how many there are is one less than `total`, and `multi` of them have several layers
pub record RowsHeld (n : ℕ) (closed : List ℕ) (rows : List (List ℕ)) (total multi : ℕ) : Type 0 where
  pub count : length rows + 1 ≡ total
  pub short : (k : ℕ) → length (get_or rows k []) ≤ n
  pub many : multi ≡ count_below (length rows) (several_in closed n rows)

pub rows_none : {n : ℕ} {closed : List ℕ} → RowsHeld n closed [] 1 0
unfolding count_below
rows_none = record { count = refl; short = λ k. omega arith; many = refl }

-- ── One row more ──────────────────────────────────────────────────────
pub digit_most : (b : Bool) → digit b ≤ 1
digit_most true = omega arith
digit_most false = omega arith

pub count_suc : (n : ℕ) (p : ℕ → Bool) → count_below (suc n) p ≡ count_below n p + digit (p n)
unfolding count_below
count_suc zero p = add_comm (digit (p 0)) 0
count_suc (suc n) p =
    ap (λ (x : ℕ). digit (p 0) + x) (count_suc n (λ j. p (suc j)))
    ∙ sym (add_assoc (digit (p 0)) (count_below n (λ j. p (suc j))) (digit (p (suc n))))

short_more : (rows : List (List ℕ)) (flags : List ℕ) (n : ℕ) → ((k : ℕ) → length (get_or rows k []) ≤ n) → length flags ≤ n → (k : ℕ) → length (get_or (rows ++ (flags ∷ [])) k []) ≤ n
short_more [] flags n h l zero = l
short_more [] flags n h l (suc k) = omega arith
short_more (x ∷ rows) flags n h l zero = h 0
short_more (x ∷ rows) flags n h l (suc k) = short_more rows flags n (λ i. h (suc i)) l k

pub rows_more : {n total multi multi' mask : ℕ} {closed flags : List ℕ} {rows : List (List ℕ)}
    → RowsHeld n closed rows total multi → Held flags mask → length flags ≤ n → multi' ≡ multi + digit (several closed n mask)
    → RowsHeld n closed (rows ++ (flags ∷ [])) (total + 1) multi'
rows_more {n} {mask = mask} {closed = closed} {flags = flags} {rows = rows} R H l e =
    record {
      count = omega (arith, longer, R.count);
      short = short_more rows flags n R.short l;
      many =
          e ∙ ap₂ (λ (x : ℕ) (b : Bool). x + digit b) (R.many ∙ same) last
          ∙ sym (count_suc (length rows) (several_in closed n rows'))
          ∙ ap (λ (x : ℕ). count_below x (several_in closed n rows')) (sym (longer ∙ add-one (length rows)));
    }
  where
    rows' : List (List ℕ)
    rows' = rows ++ (flags ∷ [])

    longer : length rows' ≡ length rows + 1
    longer = length-append rows (flags ∷ [])

    same : count_below (length rows) (several_in closed n rows) ≡ count_below (length rows) (several_in closed n rows')
    same = count_ext (length rows) _ _ (λ k l. ap (λ (x : List ℕ). several closed n (mask_of 64 (flagged x))) (sym (get_or-append rows (flags ∷ []) [] k l)))

    last : several closed n mask ≡ several_in closed n rows' (length rows)
    last = ap (several closed n) (H.bits ∙ ap (λ (x : List ℕ). mask_of 64 (flagged x)) (sym (get_or-append_seam rows flags [] [])))
