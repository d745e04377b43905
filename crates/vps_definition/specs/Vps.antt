-- video_parameter_set_rbsp() of H.266 clause 7.3.2.3 up to the extension flag, in coded order, with the record's layout.
use Rattle.std.specs.Prelude.{ℕ, zero, suc, ◌+◌, ◌-◌, List, [], ◌∷◌, ◌++◌, Bool, cond, not, ◌&&◌, ◌||◌, ltb, leb, eqb, get_or}
use Rattle.refusals.specs.Number.{id_zero, sublayers_reserved, layer_ids_not_rising, no_direct_reference, mode_reserved, no_output_layer, ptls_over_sets, ptl_max_tid, ptl_alignment, ptl_index, dpb_slots}
use Rattle.vps_definition.specs.Rules.{Rules, today}
use Rattle.vps_definition.specs.Syntax.{Syntax, ◌>>=◌, skim}
use Rattle.vps_definition.specs.Syntax.Syntax.{late, keep, mark, test, done}
use Rattle.vps_definition.specs.Words.{sum, u, u_minus1, inferred, u_if, general, general_if, check, ruled, when, aligned, loop}
use Rattle.vps_definition.specs.OutputLayerSets.{Sets, total_num_olss, num_multi_layer_olss}
use Rattle.vps_definition.specs.OutputLayerSets.Sets.{each_layer, up_to, chosen}
use Rattle.vps_definition.specs.ProfileTierLevel.{profile_tier_level}
use Rattle.vps_definition.specs.DpbParameters.{index, dpb_section}
use Rattle.vps_definition.specs.TimingHrd.{timing_section}

-- ── The first fields ──────────────────────────────────────────────────
pub record Header : Type 0 where
  pub id : ℕ
  -- vps_max_layers_minus1 + 1
  pub layers : ℕ
  pub max_sublayers_minus1 : ℕ
  pub default_max_tid_flag : ℕ
  pub all_independent_flag : ℕ

-- kept in the General section
unfoldable pub header_under : Rules → Syntax Header
header_under rules = do
  vps_video_parameter_set_id ← general 1 4
  vps_max_layers_minus1 ← late 6 (λ r x. get_or r 0 0 - 1) done
  vps_max_sublayers_minus1 ← general 2 3
  c5 ← ruled rules.id_zero_refused (ltb 0 vps_video_parameter_set_id) id_zero (check (leb vps_max_sublayers_minus1 6) sublayers_reserved)
  vps_default_ptl_dpb_hrd_max_tid_flag ← general_if (ltb 0 vps_max_layers_minus1 && ltb 0 vps_max_sublayers_minus1) 3 1 1
  vps_all_independent_layers_flag ← general_if (ltb 0 vps_max_layers_minus1) 4 1 1
  done (record {
    id = vps_video_parameter_set_id;
    layers = vps_max_layers_minus1 + 1;
    max_sublayers_minus1 = vps_max_sublayers_minus1;
    default_max_tid_flag = vps_default_ptl_dpb_hrd_max_tid_flag;
    all_independent_flag = vps_all_independent_layers_flag;
  })

abbrev pub header : Syntax Header
header = header_under today

-- ── Layers ────────────────────────────────────────────────────────────
-- what goes from layer to layer: the least id that is allowed next, and each layer's direct reference flags
pub record Layers : Type 0 where
  pub least : ℕ
  pub refs : List (List ℕ)

unfoldable pub direct_reference : (max-tid-ref-present-flag max_sublayers_minus1 j : ℕ) → List ℕ → Syntax (List ℕ)
direct_reference max-tid-ref-present-flag max_sublayers_minus1 j flags = do
  vps_direct_ref_layer_flag ← u 1
  vps_max_tid_il_ref_pics_plus1 ← u_if (eqb max-tid-ref-present-flag 1 && eqb vps_direct_ref_layer_flag 1) 3 (max_sublayers_minus1 + 1)
  done (flags ++ (vps_direct_ref_layer_flag ∷ []))

unfoldable pub dependent_layer : (max_sublayers_minus1 i : ℕ) → Syntax (List ℕ)
dependent_layer max_sublayers_minus1 i = do
  vps_max_tid_ref_present_flag ← u 1
  flags ← loop (direct_reference vps_max_tid_ref_present_flag max_sublayers_minus1) i 0 []
  c7 ← check (ltb 0 (sum flags)) no_direct_reference
  done flags

unfoldable pub independent_layer : Syntax (List ℕ)
independent_layer = do
  vps_max_tid_ref_present_flag ← inferred 0
  done []

unfoldable pub layer : Header → ℕ → Layers → Syntax Layers
layer h i x = do
  vps_layer_id ← u 6
  c6 ← check (leb x.least vps_layer_id) layer_ids_not_rising
  vps_independent_layer_flag ← u_if (ltb 0 i && eqb h.all_independent_flag 0) 1 1
  flags ← test (eqb vps_independent_layer_flag 0) (dependent_layer h.max_sublayers_minus1 i) independent_layer
  done (record { least = vps_layer_id + 1; refs = x.refs ++ (flags ∷ []) })

unfoldable pub layers_section : Header → Syntax Layers
layers_section h = loop (layer h) h.layers 0 (record { least = 0; refs = [] })

-- ── Output layer sets ─────────────────────────────────────────────────
unfoldable pub output_flag : ℕ → List ℕ → Syntax (List ℕ)
output_flag j flags = do
  vps_ols_output_layer_flag ← u 1
  done (flags ++ (vps_ols_output_layer_flag ∷ []))

unfoldable pub row : (n i : ℕ) → List (List ℕ) → Syntax (List (List ℕ))
row n i rows = do
  flags ← loop output_flag n 0 []
  c9 ← check (ltb 0 (sum flags)) no_output_layer
  done (rows ++ (flags ∷ []))

-- vps_num_output_layer_sets_minus2 + 1 rows
unfoldable pub rows_section : (n : ℕ) → Syntax Sets
rows_section n = do
  count ← u_minus1 8
  rows ← loop (row n) count 0 []
  done (chosen rows)

unfoldable pub no_rows : Sets → Syntax Sets
no_rows sets = keep 0 (done sets)

pub record SetsRead : Type 0 where
  pub each_layer_flag : ℕ
  pub mode_idc : ℕ
  pub sets : Sets

unfoldable pub sets_section : Header → Syntax SetsRead
sets_section h = do
  vps_each_layer_is_an_ols_flag ← general_if (ltb 1 h.layers && eqb h.all_independent_flag 1) 5 1 (cond (eqb h.layers 1) 1 0)
  vps_ols_mode_idc ← general_if (eqb vps_each_layer_is_an_ols_flag 0 && eqb h.all_independent_flag 0) 6 2 2
  c8 ← check (leb vps_ols_mode_idc 2) mode_reserved
  sets ← mark
      (test (eqb vps_each_layer_is_an_ols_flag 0)
      (test (eqb vps_ols_mode_idc 2) (rows_section h.layers) (no_rows up_to))
      (no_rows each_layer))
  done (record { each_layer_flag = vps_each_layer_is_an_ols_flag; mode_idc = vps_ols_mode_idc; sets = sets })

-- ── Profile, tier, level ──────────────────────────────────────────────
-- the present flag and the max tid of a slot
pub record Head : Type 0 where
  pub present_flag : ℕ
  pub max_tid : ℕ

abbrev pub head : ℕ → ℕ → Head
head p t = record { present_flag = p; max_tid = t }

-- the record's rest from slot i on, where it is x from slot 0 on
unfoldable pub slot_at : ℕ → List ℕ → List ℕ → List ℕ
slot_at zero r x = x
slot_at (suc i) r x = let y = slot_at i r x in skim (profile_tier_level (get_or y 0 0) (get_or y 1 0)) r y

-- number j of slot i: u(w) where the condition holds, else v
unfoldable pub slot_number_if : Bool → (i j w v : ℕ) → Syntax ℕ
slot_number_if b i j w v = test b (late w (λ r x. get_or (slot_at i r x) j 0) done) (done v)

unfoldable pub ptl_head : Header → ℕ → List Head → Syntax (List Head)
ptl_head h i heads = do
  vps_pt_present_flag ← slot_number_if (ltb 0 i) i 0 1 1
  vps_ptl_max_tid ← slot_number_if (eqb h.default_max_tid_flag 0) i 1 3 h.max_sublayers_minus1
  c11 ← check (leb vps_ptl_max_tid h.max_sublayers_minus1) ptl_max_tid
  done (heads ++ (head vps_pt_present_flag vps_ptl_max_tid ∷ []))

unfoldable pub ptl_slot : List Head → ℕ → Unit {0} → Syntax (Unit {0})
ptl_slot heads i x = profile_tier_level (get_or heads i (head 0 0)).present_flag (get_or heads i (head 0 0)).max_tid

-- all heads, and then all slots; the result is how many there are
unfoldable pub ptl_section : Header → (total : ℕ) → Syntax ℕ
ptl_section h total = do
  count ← test (eqb h.layers 1) (inferred 1) (u_minus1 8)
  c10 ← check (leb count total) ptls_over_sets
  heads ← loop (ptl_head h) count 0 []
  vps_ptl_alignment_zero_bits ← aligned ptl_alignment
  s ← loop (ptl_slot heads) count 0 tt
  done count

-- the number of sets, and each set's vps_ols_ptl_idx
unfoldable pub ols_section : (ptls total : ℕ) → Syntax (Unit {0})
ols_section ptls total = do
  t ← inferred total
  loop (λ i x. index ptls total ptl_index i) total 0 tt

-- ── Buffers and timing ────────────────────────────────────────────────
unfoldable pub multi_layer_sections : Header → (multi : ℕ) → Syntax ℕ
multi_layer_sections h multi = do
  flag ← mark (dpb_section h.default_max_tid_flag h.max_sublayers_minus1 multi)
  vps_timing_hrd_params_present_flag ← mark (u 1)
  t ← when vps_timing_hrd_params_present_flag (timing_section h.default_max_tid_flag h.max_sublayers_minus1 multi)
  done flag

-- no slot, no entry, no timing
unfoldable pub single_layer_sections : Syntax ℕ
single_layer_sections = mark (keep 0 (keep 0 (mark (keep 0 (done 0)))))

-- the result is vps_sublayer_dpb_params_present_flag
unfoldable pub buffer_sections : Header → (each_layer_flag multi : ℕ) → Syntax ℕ
buffer_sections h each_layer_flag multi = test (eqb each_layer_flag 0) (multi_layer_sections h multi) single_layer_sections

-- ── The whole ─────────────────────────────────────────────────────────
-- the nine numbers of the General section
abbrev pub general_of : Header → SetsRead → (dpb_flag extension_flag : ℕ) → List ℕ
general_of h s dpb_flag extension_flag =
    h.layers ∷ h.id ∷ h.max_sublayers_minus1 ∷ h.default_max_tid_flag ∷ h.all_independent_flag
    ∷ s.each_layer_flag ∷ s.mode_idc ∷ dpb_flag ∷ extension_flag ∷ []

-- each layer is a set, or some set has several layers: there can be a DPB slot for each set that needs one
abbrev pub slots_possible : (each_layer_flag multi : ℕ) → Bool
slots_possible each_layer_flag multi = not (eqb each_layer_flag 0) || ltb 0 multi

unfoldable pub vps_under : Rules → Syntax (List ℕ)
vps_under rules = do
  h ← header_under rules
  l ← mark (layers_section h)
  s ← sets_section h
  ptls ← ruled rules.early_slots (slots_possible s.each_layer_flag (num_multi_layer_olss h.layers l.refs s.sets)) dpb_slots
      (mark (ptl_section h (total_num_olss h.layers s.sets)))
  o ← mark (ols_section ptls (total_num_olss h.layers s.sets))
  flag ← buffer_sections h s.each_layer_flag (num_multi_layer_olss h.layers l.refs s.sets)
  vps_extension_flag ← general 8 1
  mark (done (general_of h s flag vps_extension_flag))

abbrev pub vps : Syntax (List ℕ)
vps = vps_under today
