-- The layer page, which controllers pin beside the map: a line for each output layer set of a record.
use Rattle.std.specs.Prelude.{ℕ, zero, suc, List, [], ◌∷◌, ◌++◌, Bool, cond, ltb, get_or}
use Rattle.refusals.specs.Answer.{Answer}
use Rattle.refusals.specs.Answer.Answer.{success, refusal}
use Rattle.refusals.specs.Number.{not_well_formed}
use Rattle.texts.specs.Bytes.{bytes}
use Rattle.text_numbers.specs.Decimal.{decimal}
use Rattle.text_numbers.specs.Aligned.{right_aligned}
use Rattle.vps_definition.specs.OutputLayerSets.{Sets, in_set, total_num_olss, num_layers_in_ols}
use Rattle.vps_definition.specs.Writing.{well_formed}
use Rattle.vps_definition.specs.Views.{refs_of, sets_of}

-- ── A line ────────────────────────────────────────────────────────────
-- place j, where there are n layers: # for a layer that is in the set, a dot for one that isn't, a blank from n on
unfoldable pub place : (n : ℕ) (is_in : ℕ → Bool) (j : ℕ) → ℕ
place n is_in j = cond (ltb j n) (cond (is_in j) 35 46) 32

-- the first j places
unfoldable pub places : (n : ℕ) (is_in : ℕ → Bool) (j : ℕ) → List ℕ
places n is_in zero = []
places n is_in (suc j) = places n is_in j ++ (place n is_in j ∷ [])

-- before the places: a set's index, and how many layers it has
unfoldable pub columns : (index count : ℕ) → List ℕ
columns index count = right_aligned 3 (decimal index) ++ bytes " " ++ right_aligned 2 (decimal count) ++ bytes " "

unfoldable pub line : (index count n : ℕ) (is_in : ℕ → Bool) → List ℕ
line index count n is_in = columns index count ++ places n is_in 64 ++ bytes "\n"

-- ── The page ──────────────────────────────────────────────────────────
-- the line of set k, of n layers with these references
unfoldable pub set_line : (n : ℕ) (refs : List (List ℕ)) → Sets → ℕ → List ℕ
set_line n refs sets k = line k (num_layers_in_ols n refs sets k) n (in_set n refs sets k)

-- the lines of the first k sets
unfoldable pub set_lines : (n : ℕ) (refs : List (List ℕ)) → Sets → ℕ → List ℕ
set_lines n refs sets zero = []
set_lines n refs sets (suc k) = set_lines n refs sets k ++ set_line n refs sets k

-- all sets of a record, by the record's own numbers
unfoldable pub page_of : List ℕ → List ℕ
page_of r = set_lines (get_or r 0 0) (refs_of r) (sets_of r) (total_num_olss (get_or r 0 0) (sets_of r))

-- a list that is not well formed has no page
unfoldable pub layer_page : List ℕ → Answer (List ℕ)
layer_page r = cond (well_formed r) (success (page_of r)) (refusal not_well_formed)
