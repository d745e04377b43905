-- Output layer sets (H.266 clause 7.4.3.3): which layers refer to which, which layers a set includes, and how many sets have several.
use Rattle.std.specs.Prelude.{ℕ, zero, suc, ◌+◌, ◌*◌, ◌<◌, ◌≡◌, List, [], Bool, true, false, ◌&&◌, ◌||◌, ltb, leb, eqb, length, get_or}

-- ── Layers by number ──────────────────────────────────────────────────
-- some k below n has the property
unfoldable pub any_below : ℕ → (ℕ → Bool) → Bool
any_below zero p = false
any_below (suc n) p = any_below n p || p n

-- 1 for true
abbrev pub digit : Bool → ℕ
digit true = 1
digit false = 0

-- how many k below n have the property
unfoldable pub count_below : ℕ → (ℕ → Bool) → ℕ
count_below zero p = 0
count_below (suc n) p = digit (p 0) + count_below n (λ j. p (suc j))

-- ── References ────────────────────────────────────────────────────────
-- layer j is reachable from layer i through direct references, each to a lower layer
pub data Reaches (refers : ℕ → ℕ → Bool) : ℕ → ℕ → Type 0 where
  direct : {i j : ℕ} → refers i j ≡ true → Reaches refers i j
  through : {i k j : ℕ} → k < i → refers i k ≡ true → Reaches refers k j → Reaches refers i j

-- the layers of p, and each that one of them, below n, reaches
unfoldable pub with_reached : ℕ → (ℕ → ℕ → Bool) → (ℕ → Bool) → ℕ → Bool
with_reached n reach p j = p j || any_below n (λ k. p k && reach k j)

-- `Reaches` computed, of ways of at most `steps` references; `reaches-sound` and `reaches-complete` show the two equal
unfoldable pub reaches_in : ℕ → (ℕ → ℕ → Bool) → ℕ → ℕ → Bool
reaches_in zero refers i j = false
reaches_in (suc steps) refers i j = with_reached i (reaches_in steps refers) (refers i) j

unfoldable pub reaches : (ℕ → ℕ → Bool) → ℕ → ℕ → Bool
reaches refers i j = reaches_in (suc i) refers i j

-- the layers of a row: its output layers, with all layers reachable from them
unfoldable pub included : ℕ → (ℕ → ℕ → Bool) → (ℕ → Bool) → ℕ → Bool
included n refers outputs = with_reached n (reaches refers) outputs

-- ── Sets ──────────────────────────────────────────────────────────────
-- flag j of a list is 1
abbrev pub flagged : List ℕ → ℕ → Bool
flagged flags j = eqb (get_or flags j 0) 1

-- layer i refers to layer j directly, by each layer's flags; a layer that has none is independent
abbrev pub refers_by : List (List ℕ) → ℕ → ℕ → Bool
refers_by refs i j = flagged (get_or refs i []) j

-- how the sets are given
pub data Sets : Type 0 where
  -- each layer is a set
  each_layer : Sets
  -- modes 0 and 1: set i has layers 0 to i
  up_to : Sets
  -- mode 2: set 0 has layer 0, and each further set a row of output flags
  chosen : (rows : List (List ℕ)) → Sets

-- layer j is in set i: the one fact about included layers, for every mode
unfoldable pub in_set : (n : ℕ) (refs : List (List ℕ)) → Sets → ℕ → ℕ → Bool
in_set n refs each_layer i j = eqb i j
in_set n refs up_to i j = leb j i
in_set n refs (chosen rows) zero j = eqb 0 j
in_set n refs (chosen rows) (suc i) j = included n (refers_by refs) (flagged (get_or rows i [])) j

-- TotalNumOlss
unfoldable pub total_num_olss : (n : ℕ) → Sets → ℕ
total_num_olss n each_layer = n
total_num_olss n up_to = n
total_num_olss n (chosen rows) = length rows + 1

-- NumLayersInOls of set i
unfoldable pub num_layers_in_ols : (n : ℕ) (refs : List (List ℕ)) → Sets → ℕ → ℕ
num_layers_in_ols n refs sets i = count_below n (in_set n refs sets i)

-- NumMultiLayerOlss
unfoldable pub num_multi_layer_olss : (n : ℕ) (refs : List (List ℕ)) → Sets → ℕ
num_multi_layer_olss n refs sets = count_below (total_num_olss n sets) (λ i. ltb 1 (num_layers_in_ols n refs sets i))

-- ── Masks ─────────────────────────────────────────────────────────────
-- the number whose bit j, for j below n, says whether p holds of j
unfoldable pub mask_of : ℕ → (ℕ → Bool) → ℕ
mask_of zero p = 0
mask_of (suc n) p = mask_of n (λ j. p (suc j)) * 2 + digit (p 0)

-- the layers of set i, as a mask of 64 bits
unfoldable pub set_mask : (n : ℕ) (refs : List (List ℕ)) → Sets → ℕ → ℕ
set_mask n refs sets i = mask_of 64 (in_set n refs sets i)
