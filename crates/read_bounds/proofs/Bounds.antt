-- Reading the table never takes a place or a cursor past the limit, whatever the bytes are: each count is bounded by its field's
-- width or by a check.
use Rattle.std.specs.Prelude.{ℕ, zero, suc, ◌+◌, ◌*◌, ◌-◌, ◌≤◌, ◌≡◌, refl, List, [], ◌∷◌, Bool, true, false, cond, leb, eqb, length}
use Rattle.std.proofs.Common.{ap, ◌∙◌, le_trans, arith, leb-true, le-leb, length-append}
use Rattle.vps_definition.specs.Syntax.{Syntax, ◌>>=◌, Token, numbers, run}
use Rattle.vps_definition.specs.Syntax.Outcome.{accepted}
use Rattle.vps_definition.specs.Words.{sum, u, u_minus1, inferred, ruled, nothing}
use Rattle.vps_definition.specs.OutputLayerSets.{total_num_olss, num_multi_layer_olss}
use Rattle.vps_definition.specs.ProfileTierLevel.{falling, reversed, ahead, constraint_bit, constraints, constraints_if, general_constraints_info, profile_and_tier, sub_profile, sub_profiles, profile_tier_level}
use Rattle.vps_definition.specs.DpbParameters.{dpb_sublayer, per_sublayer, index, ols_dpb, dpb_section}
use Rattle.vps_definition.specs.TimingHrd.{Hrd, general_timing_hrd, du_values, schedule, sublayer_hrd, timing_sublayer, timing_section}
use Rattle.vps_definition.specs.Vps.{Header, Layers, Head, head, header_under, header, direct_reference, dependent_layer, independent_layer, layer, layers_section, output_flag, row, rows_section, no_rows, sets_section, slot_number_if, ptl_head, ptl_slot, ptl_section, ols_section, multi_layer_sections, single_layer_sections, buffer_sections, vps_under, vps}
use Rattle.vps_laws.specs.Reading.{each_join}
use Rattle.vps_laws.specs.Bound.{count_most}
use Rattle.reading.specs.Fits.{Room, Fits}
use Rattle.read_bounds.specs.Within.{Within, Bounded, Any, within_fits, within_taken, within_so, within_field, within_late, within_keep, within_mark, within_test, within_done, within_end, within_nothing, within_aligned, within_when, within_check, within_bind}
use Rattle.read_bounds.proofs.Within.{within_after, within_one, within_u, within_ue, within_ue_minus1, within_inferred, within_u_if, within_ue_if, within_general, within_general_if, within_checked, within_ruled, within_keeps, within_loop, within_turns, within_repeat, words}
use Rattle.read_bounds.specs.Bounds.{Small, Fields, sum_most, additional_most, Low, low_at, most_words}

within_header : Within Small 5 header
unfolding header_under ◌>>=◌
within_header =
    within_one refl (within_general 1 4 refl) λ id.
    within_late refl refl λ n l.
    within_one refl (within_general 2 3 refl) λ top.
    within_after 0 refl (within_ruled _ _ _ (within_check (leb top 6) _)) λ c e.
    within_one refl (within_general_if _ 3 1 1 refl) λ d.
    within_one refl (within_general_if _ 4 1 1 refl) λ a. within_done (record { layers = omega arith; sublayers = leb-true top 6 e })

-- ── Layers ────────────────────────────────────────────────────────────
-- at most 63 references of two words
within_dependent_layer : (top i : ℕ) → i ≤ 63 → Within Any 127 (dependent_layer top i)
unfolding dependent_layer direct_reference
within_dependent_layer top i l =
    within_one refl (within_u 1 refl) λ p.
    within_after (63 * 2) refl (within_turns {c = 2} 63 i 0 [] l (λ j flags k. search words depth 10)) λ flags o. search words depth 10

within_layer : (h : Header) (i : ℕ) (x : Layers) → i ≤ 63 → Within Any 129 (layer h i x)
unfolding layer independent_layer
within_layer h i x l =
    within_one refl (within_u 6 refl) λ id.
    within_checked _ _ λ c e.
    within_one refl (within_u_if _ 1 1 refl) λ independent.
    within_after 127 refl (within_test _ (within_dependent_layer _ i l) (within_one refl (within_inferred 0) λ r. within_end)) λ flags o. within_end

within_layers_section : (h : Header) → Small h → Within Any (64 * 129) (layers_section h)
unfolding layers_section
within_layers_section h g = within_turns 64 h.layers 0 _ g.layers (λ i x k. within_layer h i x (omega (arith, g.layers)))

-- ── Sets ──────────────────────────────────────────────────────────────
-- a flag for each layer, in each of at most 256 rows
within_row : (n i : ℕ) (rows : List (List ℕ)) → n ≤ 64 → length rows ≡ i → Within (λ l. length l ≡ i + 1) 64 (row n i rows)
unfolding row output_flag
within_row n i rows l g =
    within_after 64 refl (within_turns {c = 1} 64 n 0 [] l (λ j flags k. search words depth 10)) λ flags o.
    within_checked _ _ λ c e. within_done (length-append rows (flags ∷ []) ∙ ap (λ (k : ℕ). k + 1) g)

within_rows_section : (n : ℕ) → n ≤ 64 → Within (λ sets. total_num_olss n sets ≤ 257) (1 + 256 * 64) (rows_section n)
unfolding rows_section u_minus1 ◌>>=◌ total_num_olss
within_rows_section n l =
    within_field refl refl λ v h.
    within_after (256 * 64) refl (within_loop (λ i rows. length rows ≡ i) 256 (v + 1) 0 [] (omega arith) refl (λ i rows k g. within_row n i rows l g)) λ rows g. within_done (omega arith)

within_sets_section : (h : Header) → Small h → Within (λ s. total_num_olss h.layers s.sets ≤ 257) (3 + 256 * 64) (sets_section h)
unfolding sets_section no_rows total_num_olss
within_sets_section h g =
    within_one refl (within_general_if _ 5 1 _ refl) λ e.
    within_one refl (within_general_if _ 6 2 2 refl) λ m.
    within_checked _ _ λ c o.
    within_after (1 + 256 * 64) refl (within_mark (within_test _ (within_test _ (within_rows_section h.layers g.layers) (within_keep refl (within_done (omega (arith, g.layers))))) (within_keep refl (within_done (omega (arith, g.layers))))))
    λ s k. within_done k

within_falling : (n w : ℕ) → leb w 64 ≡ true → Within (Fields n w) n (falling n w)
unfolding falling
within_falling zero w o = within_done (record { count = refl; small = tt })
within_falling (suc n) w o =
    within_late o (le-leb 1 (suc n) (omega arith)) λ v h.
    within_so (within_bind (within_falling n w o) λ l f. within_done {c = 0} (record { count = omega (arith, length-append l (v ∷ []), f.count); small = each_join _ l (v ∷ []) f.small (h, tt) })) (omega arith)

within_ahead : (n i : ℕ) → Within (Fields n 1) n (ahead n i)
unfolding ahead
within_ahead zero i = within_done (record { count = refl; small = tt })
within_ahead (suc n) i =
    within_late refl (le-leb 1 (suc n) (omega arith)) λ v h.
    within_so (within_bind (within_ahead n (i + 1)) λ l f. within_done {c = 0} (record { count = omega (arith, f.count); small = (h, f.small) })) (omega arith)

within_reversed : (most n w : ℕ) → n ≤ most → leb w 64 ≡ true → Within (Fields n w) (2 * most) (reversed n w)
unfolding reversed
within_reversed most n w h o =
    within_so (within_bind {c = n} (within_falling n w o) λ l f. within_so (within_bind (within_keeps l) λ t g. within_done {c = 0} f) (omega (arith, f.count))) (omega arith)

within_constraints : Within Any (77 + 1 + 77 + 255) constraints
unfolding constraints constraint_bit inferred ◌>>=◌
within_constraints =
    within_after 77 refl (within_ahead 77 1) λ l f.
    within_keep refl
    (within_after 77 refl (within_so (within_keeps l) (omega (arith, f.count))) λ k o. within_repeat {c = 1} 255 _ (additional_most l f) (within_field refl refl λ v h. within_nothing))

within_general_constraints_info : Within Any 412 general_constraints_info
unfolding general_constraints_info constraints_if nothing
within_general_constraints_info =
    within_one refl (within_u 1 refl) λ p.
    within_after 410 refl (within_test _ (within_keep refl within_end) within_constraints) λ c o. within_aligned 0

within_sub_profiles : Within Any (1 + 255) sub_profiles
unfolding sub_profiles sub_profile u ◌>>=◌
within_sub_profiles = within_field refl refl λ v h. within_repeat {c = 1} 255 _ (omega arith) (within_field refl refl λ v h. within_nothing)

-- at most six flags, each read and kept, and as many levels
within_profile_tier_level : (present top : ℕ) → top ≤ 6 → Within Any 700 (profile_tier_level present top)
unfolding profile_tier_level profile_and_tier
within_profile_tier_level present top l =
    within_one refl (within_inferred present) λ p.
    within_one refl (within_inferred top) λ t.
    within_after 2 refl (within_when present (search words depth 10)) λ a o.
    within_one refl (within_u 8 refl) λ level.
    within_one refl (within_u 1 refl) λ frame.
    within_one refl (within_u 1 refl) λ multi.
    within_after 412 refl (within_when present within_general_constraints_info) λ c o.
    within_after 12 refl (within_reversed 6 top 1 l refl) λ flags f.
    within_one refl (within_aligned 0) λ z.
    within_after 12 refl (within_reversed 6 (sum flags) 8 (omega (arith, sum_most flags f.small, f.count)) refl) λ levels g.
    within_when present within_sub_profiles

within_ptl_head : (h : Header) (i : ℕ) (heads : List Head) → Small h → Low heads → Within Low 2 (ptl_head h i heads)
unfolding ptl_head slot_number_if
within_ptl_head h i heads g o =
    within_one refl (within_test _ (within_late refl refl λ v k. within_end) within_end) λ p.
    within_one refl (within_test _ (within_late refl refl λ v k. within_end) within_end) λ tid.
    within_checked (leb tid h.max_sublayers_minus1) _ λ c e.
    within_done (each_join _ heads (head p tid ∷ []) o (omega (arith, leb-true tid h.max_sublayers_minus1 e, g.sublayers), tt))

-- at most 256 slots, by the width of vps_num_ptls_minus1
within_ptl_section : (h : Header) (total : ℕ) → Small h → Within Any (1 + 256 * 2 + 1 + 256 * 700) (ptl_section h total)
unfolding ptl_section ptl_slot inferred u_minus1
within_ptl_section h total g =
    within_after 1 refl (within_test {Q = λ n. n ≤ 256} _ (within_keep refl (within_done (omega arith))) (within_field refl refl λ v k. within_done (omega arith))) λ n l.
    within_checked _ _ λ c e.
    within_after (256 * 2) refl (within_loop (λ i heads. Low heads) 256 n 0 [] l tt (λ i heads k o. within_ptl_head h i heads g o)) λ heads o.
    within_one refl (within_aligned _) λ z.
    within_after (256 * 700) refl (within_turns 256 n 0 tt l (λ i x k. within_profile_tier_level _ _ (low_at heads i o))) λ s p. within_end

within_index : (size count r i : ℕ) → Within Any 1 (index size count r i)
unfolding index
within_index size count r i = search words depth 10

-- the number of sets, and an index of each
within_ols_section : (ptls total : ℕ) → total ≤ 257 → Within Any (1 + 257) (ols_section ptls total)
unfolding ols_section
within_ols_section ptls total l = within_one refl (within_inferred total) λ t. within_turns {c = 1} 257 total 0 tt l (λ i x k. within_index ptls total _ i)

-- ── Buffers and timing ────────────────────────────────────────────────
-- a max tid, and at most seven sublayers
within_per_sublayer : {c : ℕ} (d top r flag : ℕ) {m : Syntax (Unit {0})} → top ≤ 6 → Within Any c m → Within Any (1 + 7 * c) (per_sublayer d top r flag m)
unfolding per_sublayer
within_per_sublayer d top r flag l M =
    within_bind (within_u_if _ 3 top refl) λ tid o.
    within_checked (leb tid top) r λ c e. within_repeat 7 _ (few tid (omega (arith, leb-true tid top e)) (eqb flag 0)) M
  where
    few : (tid : ℕ) → tid ≤ 6 → (b : Bool) → cond b 1 (tid + 1) ≤ 7
    few tid l true = omega arith
    few tid l false = omega arith

within_dpb_sublayer : Within Any 3 dpb_sublayer
unfolding dpb_sublayer
within_dpb_sublayer = search words depth 20

within_ols_dpb : (slots multi i : ℕ) → Within Any 5 (ols_dpb slots multi i)
unfolding ols_dpb
within_ols_dpb slots multi i = search (words, within_index) depth 20

-- at most as many slots as multi-layer sets, by a check
within_dpb_section : (d top multi : ℕ) → top ≤ 6 → multi ≤ 257 → Within Any (2 + 257 * 22 + 1 + 257 * 5) (dpb_section d top multi)
unfolding dpb_section
within_dpb_section d top multi h l =
    within_one refl within_ue_minus1 λ slots.
    within_checked (leb slots multi) _ λ c e.
    within_one refl (within_general_if _ 7 1 0 refl) λ flag.
    within_after (257 * 22) refl (within_repeat 257 slots (omega (arith, leb-true slots multi e)) (within_per_sublayer d top _ flag h within_dpb_sublayer)) λ s o.
    within_one refl (within_inferred multi) λ m.
    within_after (257 * 5) refl (within_turns 257 multi 0 tt l (λ i x k. within_ols_dpb slots multi i)) λ p q. within_end

-- at most 32 schedules, by a check
within_general_timing_hrd : Within (λ h. h.cpb_cnt_minus1 ≤ 31) 11 general_timing_hrd
unfolding general_timing_hrd
within_general_timing_hrd = search (words, within_checked, within_done, leb-true) depth 40

within_schedule : (du : ℕ) → Within Any 5 (schedule du)
unfolding schedule du_values
within_schedule du =
    within_one refl within_ue λ rate.
    within_one refl within_ue λ size.
    within_after 2 refl (within_when du (search words depth 10)) λ d o. search words depth 10

within_sublayer_hrd : (h : Hrd) → h.cpb_cnt_minus1 ≤ 31 → Within Any (32 * 5) (sublayer_hrd h)
unfolding sublayer_hrd
within_sublayer_hrd h l = within_repeat 32 _ (omega arith) (within_schedule h.du)

within_timing_sublayer : (h : Hrd) → h.cpb_cnt_minus1 ≤ 31 → Within Any 324 (timing_sublayer h)
unfolding timing_sublayer
within_timing_sublayer h l =
    within_one refl (within_u 1 refl) λ general.
    within_one refl (within_u_if _ 1 1 refl) λ fixed.
    within_one refl (within_ue_if _ 0) λ duration.
    within_checked _ _ λ c e.
    within_one refl (within_u_if _ 1 0 refl) λ low-delay.
    within_after 160 refl (within_when h.nal (within_sublayer_hrd h l)) λ n o. within_when h.vcl (within_sublayer_hrd h l)

within_timing_section : (d top multi : ℕ) → top ≤ 6 → multi ≤ 257 → Within Any (13 + 257 * 2269 + 257) (timing_section d top multi)
unfolding timing_section
within_timing_section d top multi h l =
    within_after 11 refl within_general_timing_hrd λ hrd g.
    within_one refl (within_u_if _ 1 0 refl) λ flag.
    within_one refl within_ue_minus1 λ entries.
    within_checked (leb entries multi) _ λ c e.
    within_after (257 * 2269) refl (within_repeat 257 entries (omega (arith, leb-true entries multi e)) (within_per_sublayer d top _ flag h (within_timing_sublayer hrd g))) λ s o.
    within_turns {c = 1} 257 multi 0 tt l (λ i x k. within_index entries multi _ i)

within_buffer_sections : (h : Header) (each multi : ℕ) → Small h → multi ≤ 257 → Within Any (6942 + 1 + 583403) (buffer_sections h each multi)
unfolding buffer_sections multi_layer_sections single_layer_sections
within_buffer_sections h each multi g l =
    within_test (eqb each 0)
    (within_after 6942 refl (within_mark (within_dpb_section _ _ multi g.sublayers l)) λ flag o.
    within_one refl (within_mark (within_u 1 refl)) λ on.
    within_after 583403 refl (within_when on (within_timing_section _ _ multi g.sublayers l)) λ t o. within_end)
    (within_mark (within_keep refl (within_keep refl (within_mark (within_keep refl within_end)))))

within_vps : Within Any most_words vps
unfolding vps_under ruled num_multi_layer_olss
within_vps =
    within_after 5 refl within_header λ h g.
    within_after (64 * 129) refl (within_mark (within_layers_section h g)) λ l o.
    within_after (3 + 256 * 64) refl (within_sets_section h g) λ s k.
    within_after (514 + 256 * 700) refl (within_mark (within_ptl_section h _ g)) λ ptls o.
    within_after 258 refl (within_mark (within_ols_section ptls _ k)) λ p o.
    within_after 590346 refl (within_buffer_sections h _ _ g (le_trans (count_most _ _) k)) λ flag o.
    within_one refl (within_general 8 1 refl) λ extension. within_mark within_end

-- each step finds its place and its cursor below the limit, behind the nine numbers of General
pub vps_fits : (s : List ℕ) → Fits vps s 0 9
vps_fits s = within_fits within_vps s _ _ (omega arith) (omega arith)

-- and where the table is accepted, it ends well below the limit
pub vps_bounded : {general : List ℕ} {t : List Token} {next : ℕ} (s : List ℕ) → run vps s 0 ≡ accepted general t next → Bounded most_words 0 t next
vps_bounded s e = within_taken within_vps s 0 (omega arith) e

pub vps_room : {general : List ℕ} {t : List Token} {next : ℕ} (s : List ℕ) → run vps s 0 ≡ accepted general t next → Room next (9 + length (numbers t))
vps_room s e = let b = vps_bounded s e in record { near = omega arith; few = omega arith }
