-- Where a record's own numbers stand, found by its layout: what the promises about indices and layer ids speak of.
use Rattle.std.specs.Prelude.{ℕ, zero, suc, ◌+◌, ◌*◌, ◌-◌, List, [], ◌∷◌, cond, eqb, get_or, take, drop}
use Rattle.vps_definition.specs.OutputLayerSets.{Sets}
use Rattle.vps_definition.specs.OutputLayerSets.Sets.{each_layer, up_to, chosen}
use Rattle.vps_definition.specs.DpbParameters.{sublayers}
use Rattle.vps_definition.specs.Record.{start_of}
use Rattle.vps_definition.specs.Writing.{extension_of}

-- the record from section k on
unfoldable pub from_section : List ℕ → ℕ → List ℕ
from_section r k = drop (start_of r k) r

-- ── Layers ────────────────────────────────────────────────────────────
-- layer i's entry: id, independent flag, max-tid-ref flag, and i pairs of a dependent layer
unfoldable pub entry_length : ℕ → List ℕ → ℕ
entry_length i x = 3 + cond (eqb (get_or x 1 0) 0) (2 * i) 0

-- the ids of n layers from layer i on, whose entries begin the list
unfoldable pub ids_from : ℕ → ℕ → List ℕ → List ℕ
ids_from zero i x = []
ids_from (suc n) i x = get_or x 0 0 ∷ ids_from n (i + 1) (drop (entry_length i x) x)

unfoldable pub layer_ids : List ℕ → List ℕ
layer_ids r = ids_from (get_or r 0 0) 0 (from_section r 1)

-- the first of each of n pairs
unfoldable pub firsts : ℕ → List ℕ → List ℕ
firsts zero x = []
firsts (suc n) x = get_or x 0 0 ∷ firsts n (drop 2 x)

-- layer i's direct reference flags; an independent layer has none
unfoldable pub flags_in : ℕ → List ℕ → List ℕ
flags_in i x = cond (eqb (get_or x 1 0) 0) (firsts i (drop 3 x)) []

-- those of n layers from layer i on
unfoldable pub flags_from : ℕ → ℕ → List ℕ → List (List ℕ)
flags_from zero i x = []
flags_from (suc n) i x = flags_in i x ∷ flags_from n (i + 1) (drop (entry_length i x) x)

-- ── Sets ──────────────────────────────────────────────────────────────
-- rows of n flags
unfoldable pub rows_from : ℕ → ℕ → List ℕ → List (List ℕ)
rows_from n zero x = []
rows_from n (suc k) x = take n x ∷ rows_from n k (drop n x)

-- how the sets of n layers are given, by the each-layer flag, the mode and the Rows section
unfoldable pub sets_in : (n each_layer_flag mode : ℕ) → List ℕ → Sets
sets_in n each_layer_flag mode x = cond (eqb each_layer_flag 0) (cond (eqb mode 2) (chosen (rows_from n (get_or x 0 0) (drop 1 x))) up_to) each_layer

unfoldable pub ptl_count : List ℕ → ℕ
ptl_count r = get_or (from_section r 3) 0 0

unfoldable pub set_count : List ℕ → ℕ
set_count r = get_or (from_section r 4) 0 0

-- each set's PTL index
unfoldable pub ptl_indices : List ℕ → List ℕ
ptl_indices r = take (set_count r) (drop 1 (from_section r 4))

-- ── Buffers ───────────────────────────────────────────────────────────
unfoldable pub dpb_count : List ℕ → ℕ
dpb_count r = get_or (from_section r 5) 0 0

-- behind n DPB slots, each a max tid and its triples under the sublayer-DPB flag
unfoldable pub behind_slots : (flag : ℕ) → ℕ → List ℕ → List ℕ
behind_slots flag zero x = x
behind_slots flag (suc n) x = behind_slots flag n (drop (1 + 3 * sublayers flag (get_or x 0 0)) x)

-- the DPB entries' count and the entries
unfoldable pub dpb_entries : List ℕ → List ℕ
dpb_entries r = behind_slots (get_or r 7 0) (dpb_count r) (drop 1 (from_section r 5))

unfoldable pub multi_count : List ℕ → ℕ
multi_count r = get_or (dpb_entries r) 0 0

-- the index among each of n entries' five
unfoldable pub fifths : ℕ → List ℕ → List ℕ
fifths zero x = []
fifths (suc n) x = get_or x 4 0 ∷ fifths n (drop 5 x)

unfoldable pub dpb_indices : List ℕ → List ℕ
dpb_indices r = fifths (multi_count r) (drop 1 (dpb_entries r))

-- ── Timing ────────────────────────────────────────────────────────────
unfoldable pub timing_flag : List ℕ → ℕ
timing_flag r = get_or (from_section r 6) 0 0

-- behind the flag, eleven general numbers and the sublayer flag
unfoldable pub timing_count : List ℕ → ℕ
timing_count r = get_or (from_section r 6) 13 0

-- the last numbers of the section, one for each multi-layer set
unfoldable pub timing_indices : List ℕ → List ℕ
timing_indices r = take (multi_count r) (drop (start_of r 7 - multi_count r) r)

-- ── Extension ─────────────────────────────────────────────────────────
-- the bits behind their count
unfoldable pub extension_in : List ℕ → List ℕ
extension_in r = extension_of (from_section r 7)
