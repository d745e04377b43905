-- How long a record can be: a coded number takes at least one bit of its own, and the others are few.
use Rattle.std.specs.Prelude.{ℕ, zero, suc, ◌+◌, ◌*◌, ◌-◌, ◌^◌, ◌≤◌, ◌<◌, ◌≡◌, refl, List, [], ◌∷◌, ◌++◌, Bool, true, false, cond, leb, eqb, length, get_or}
use Rattle.std.proofs.Common.{ap, ◌∙◌, le_trans, arith, leb-true, length-append}
use Rattle.stuffing.specs.Stuffing.{unstuff}
use Rattle.bits.specs.Bits.{field_at}
use Rattle.bits.specs.TrailingLaws.{trails_inside}
use Rattle.vps_definition.specs.Rules.{Rules}
use Rattle.vps_definition.specs.Syntax.{Syntax, ◌>>=◌, Token, run}
use Rattle.vps_definition.specs.Syntax.Syntax.{late, test, done}
use Rattle.vps_definition.specs.Words.{u, u_minus1, inferred, check, ruled, nothing, loop, repeat}
use Rattle.vps_definition.specs.OutputLayerSets.{total_num_olss, num_multi_layer_olss}
use Rattle.vps_definition.specs.ProfileTierLevel.{falling, reversed, ahead, constraint_bit, constraints, constraints_if, general_constraints_info, profile_and_tier, sub_profile, sub_profiles, profile_tier_level}
use Rattle.vps_definition.specs.DpbParameters.{dpb_sublayer, per_sublayer, index, ols_dpb, dpb_section}
use Rattle.vps_definition.specs.TimingHrd.{Hrd, general_timing_hrd, du_values, schedule, sublayer_hrd, timing_sublayer, timing_section}
use Rattle.vps_definition.specs.Vps.{Header, Layers, Head, header_under, direct_reference, dependent_layer, independent_layer, layer, layers_section, output_flag, row, rows_section, no_rows, sets_section, slot_number_if, ptl_head, ptl_slot, ptl_section, ols_section, multi_layer_sections, single_layer_sections, buffer_sections, vps_under}
use Rattle.vps_definition.specs.Reading.{bits_at, extension_bits, read_rbsp_under, read_unit_under}
use Rattle.vps_definition.specs.Reading.Reading.{accepts}
use Rattle.vps_laws.proofs.Bind.{run_bound}
use Rattle.vps_laws.specs.Reading.{run_grows}
use Rattle.vps_laws.specs.Keeps.{Keeps, Returns, keeps_any, keeps_so, keeps_late, keeps_keep, keeps_mark, keeps_test, keeps_done, keeps_u_minus1, keeps_inferred, keeps_check, keeps_ruled}
use Rattle.vps_laws.proofs.Keeps.{keeps_bind, keeps_loop, returns_bind}
use Rattle.vps_laws.specs.Extension.{bits_at_length}
use Rattle.vps_laws.specs.Units.{rbsp_parts, unit_accepted}
use Rattle.vps_laws.proofs.Accepted.{general_read}
use Rattle.vps_laws.specs.Bound.{Costs, costs_so, costs_field, costs_late, costs_keep, costs_mark, costs_test, done_read, costs_done, costs_u, costs_u_minus1, costs_ue, costs_ue_minus1, costs_general, costs_general_if, costs_check, costs_nothing, costs_aligned, costs_when, costs_inferred, costs_u_if, costs_ue_if, costs_keeps, costs_no_rows, Gathers, gathers_none, count_most, record_numbers, most_uncoded, most_record_numbers}

-- ── Tables in a row ───────────────────────────────────────────────────
-- where something is known of the first's result
costs_bind_so : {A B : Type 0} {Q : A → List Token → Type 0} {b c : ℕ} {m : Syntax A} {f : A → Syntax B} → Keeps Q m → Costs b m → ((a : A) (t : List Token) → Q a t → Costs c (f a)) → Costs (b + c) (m >>= f)
costs_bind_so {m = m} {f = f} R M F = record {
  holds = λ s at e.
      let B = run_bound m f s at e in
      let g = run_grows (f B.result) s B.middle B.second in
      let x = M.holds s at B.first in
      let y = (F B.result B.before (R.holds s at B.first)).holds s B.middle B.second in
      rw B.both (omega (arith, length-append B.before B.behind));
}

costs_bind : {A B : Type 0} {b c : ℕ} {m : Syntax A} {f : A → Syntax B} → Costs b m → ((a : A) → Costs c (f a)) → Costs (b + c) (m >>= f)
costs_bind M F = costs_bind_so (keeps_any (λ a t. tt {0})) M (λ a t h. F a)

-- the second gets what the first leaves
costs_after : {A B : Type 0} (b : ℕ) {c : ℕ} {m : Syntax A} {f : A → Syntax B} → leb b c ≡ true → Costs b m → ((a : A) → Costs (c - b) (f a)) → Costs c (m >>= f)
costs_after b {c} l M F = costs_so (costs_bind M F) (omega (arith, leb-true b c l))

-- where the first costs nothing, or one
costs_none : {A B : Type 0} {c : ℕ} {m : Syntax A} {f : A → Syntax B} → Costs 0 m → ((a : A) → Costs c (f a)) → Costs c (m >>= f)
costs_none M F = costs_so (costs_bind M F) (omega arith)

costs_one : {A B : Type 0} {c : ℕ} {m : Syntax A} {f : A → Syntax B} → leb 1 c ≡ true → Costs 1 m → ((a : A) → Costs (c - 1) (f a)) → Costs c (m >>= f)
costs_one l M F = costs_after 1 l M F

costs_ruled : {A : Type 0} {c : ℕ} (rule b : Bool) (n : ℕ) {m : Syntax A} → Costs c m → Costs c (ruled rule b n m)
unfolding ruled
costs_ruled true b n M = costs_none (costs_check b n) (λ o. M)
costs_ruled false b n M = M

-- behind a check, its condition holds
costs_checked : {B : Type 0} {c : ℕ} (b : Bool) (n : ℕ) {f : Unit {0} → Syntax B} → ((o : Unit {0}) → b ≡ true → Costs c (f o)) → Costs c (check b n >>= f)
costs_checked b n F = costs_so (costs_bind_so (keeps_check b n) (costs_check b n) (λ o t e. F o e.1)) (omega arith)

-- ── Loops ─────────────────────────────────────────────────────────────
costs_loop : {A : Type 0} {c : ℕ} {f : ℕ → A → Syntax A} (most n i : ℕ) (x : A) → n ≤ most → ((j : ℕ) (y : A) → j < i + n → Costs c (f j y)) → Costs (most * c) (loop f n i x)
unfolding loop
costs_loop most zero i x l F = costs_done
costs_loop zero (suc n) i x l F = absurd (omega arith)
costs_loop (suc most) (suc n) i x l F =
    costs_so (costs_bind (F i x (omega arith)) (λ y. costs_loop most n (i + 1) y (omega arith) (λ j z h. F j z (omega arith)))) (omega arith)

costs_repeat : {c : ℕ} {m : Syntax (Unit {0})} (most n : ℕ) → n ≤ most → Costs c m → Costs (most * c) (repeat n m)
unfolding repeat
costs_repeat most n l M = costs_loop most n 0 tt l (λ j y h. M)

-- any number of turns that cost nothing
costs_turns : {A : Type 0} {f : ℕ → A → Syntax A} (n i : ℕ) (x : A) → ((j : ℕ) (y : A) → Costs 0 (f j y)) → Costs 0 (loop f n i x)
costs_turns n i x F = costs_so (costs_loop n n i x (omega arith) (λ j y l. F j y)) (omega arith)

costs_repeats : (n : ℕ) {m : Syntax (Unit {0})} → Costs 0 m → Costs 0 (repeat n m)
unfolding repeat
costs_repeats n M = costs_turns n 0 tt (λ j y. M)

-- a table of such words, by `search words depth 40`
ruleset words = (costs_none, costs_one, costs_test, costs_done, costs_late, costs_u, costs_u_minus1, costs_ue, costs_general, costs_general_if, costs_check, costs_ruled, costs_nothing, costs_aligned, costs_when, costs_inferred, costs_u_if, costs_ue_if, costs_turns, costs_repeats)

-- ── Layers ────────────────────────────────────────────────────────────
costs_direct_reference : (present top j : ℕ) (flags : List ℕ) → Costs 1 (direct_reference present top j flags)
unfolding direct_reference
costs_direct_reference present top j flags = search words depth 20

-- each of at most 63 references has a max tid
costs_dependent_layer : (top i : ℕ) → i ≤ 63 → Costs 63 (dependent_layer top i)
unfolding dependent_layer
costs_dependent_layer top i l =
    costs_none (costs_u 1 refl) λ p.
    costs_after 63 refl (costs_loop 63 i 0 [] l (λ j flags h. costs_direct_reference p top j flags)) λ flags. search words depth 20

costs_layer : (h : Header) (i : ℕ) (x : Layers) → i ≤ 63 → Costs 64 (layer h i x)
unfolding layer independent_layer
costs_layer h i x l =
    costs_none (costs_u 6 refl) λ id.
    costs_none (costs_check _ _) λ c.
    costs_one refl (costs_u_if _ 1 1 refl) λ independent.
    costs_after 63 refl (costs_test _ (costs_dependent_layer _ i l) (costs_one refl (costs_inferred 0) λ r. costs_done)) λ flags. costs_done

costs_layers_section : (h : Header) → h.layers ≤ 64 → Costs (64 * 64) (layers_section h)
unfolding layers_section
costs_layers_section h l = costs_loop 64 h.layers 0 _ l (λ i x k. costs_layer h i x (omega arith))

-- ── Sets ──────────────────────────────────────────────────────────────
costs_rows_section : (n : ℕ) → Costs 0 (rows_section n)
unfolding rows_section row output_flag
costs_rows_section n = search words depth 30

costs_sets_section : (h : Header) → Costs 2 (sets_section h)
unfolding sets_section
costs_sets_section h =
    costs_none (costs_general_if _ 5 1 _) λ e.
    costs_none (costs_general_if _ 6 2 2) λ m.
    costs_none (costs_check _ _) λ c.
    costs_after 2 refl (costs_mark refl (costs_test _ (costs_test _ (costs_so (costs_rows_section _) (omega arith)) (costs_no_rows _)) (costs_no_rows _))) λ s. costs_done

-- one more, put in by g
gathers_more : {w : ℕ} {find : List ℕ → List ℕ → ℕ} {m : Syntax (List ℕ)} (g : ℕ → List ℕ → List ℕ) → 1 ≤ w → ((v : ℕ) (l : List ℕ) → length (g v l) ≡ length l + 1) → Gathers m
    → Gathers (late w find (λ v. m >>= λ l. done (g v l)))
unfolding run
gathers_more {w} {m = m} g h G M = record {
  holds = λ s at e.
      let v : ℕ = field_at s at w in
      let B = run_bound m (λ l. done (g v l)) s (at + w) e in
      let E = done_read B.second in
      omega (arith, M.holds s (at + w) B.first, ap length B.both, length-append B.before B.behind, ap length E.0, ap length E.1, E.2, G v B.result);
}

gathers_falling : (n w : ℕ) → 1 ≤ w → Gathers (falling n w)
unfolding falling
gathers_falling zero w h = gathers_none
gathers_falling (suc n) w h = gathers_more (λ v l. l ++ (v ∷ [])) h (λ v l. length-append l (v ∷ [])) (gathers_falling n w h)

gathers_ahead : (n i : ℕ) → Gathers (ahead n i)
unfolding ahead
gathers_ahead zero i = gathers_none
gathers_ahead (suc n) i = gathers_more (λ v l. v ∷ l) (omega arith) (λ v l. omega arith) (gathers_ahead n (i + 1))

-- so they are kept at no cost
costs_gathered : {B : Type 0} {c : ℕ} {m : Syntax (List ℕ)} {f : List ℕ → Syntax B} → Gathers m → ((l : List ℕ) → Costs (length l + c) (f l)) → Costs c (m >>= f)
costs_gathered {m = m} {f = f} M F = record {
  holds = λ s at e.
      let B = run_bound m f s at e in
      let x = M.holds s at B.first in
      let y = (F B.result).holds s B.middle B.second in
      rw B.both (omega (arith, length-append B.before B.behind));
}

costs_reversed : (n w : ℕ) → leb 1 w ≡ true → Costs 0 (reversed n w)
unfolding reversed
costs_reversed n w h = costs_gathered (gathers_falling n w (leb-true 1 w h)) (λ l. costs_so (costs_bind (costs_keeps l) (λ t. costs_done {c = 0})) (omega arith))

-- their length
costs_constraints : Costs 1 constraints
unfolding constraints constraint_bit
costs_constraints =
    costs_gathered (gathers_ahead 77 1) λ fixed.
    costs_so (costs_bind (costs_inferred _) λ n. costs_bind (costs_keeps fixed) λ k. costs_repeats _ (costs_field refl λ v. costs_nothing)) (omega arith)

costs_general_constraints_info : Costs 1 general_constraints_info
unfolding general_constraints_info constraints_if nothing
costs_general_constraints_info =
    costs_none (costs_u 1 refl) λ p.
    costs_one refl (costs_test _ (costs_keep refl costs_done) costs_constraints) λ c. costs_aligned 0

costs_sub_profiles : Costs 0 sub_profiles
unfolding sub_profiles sub_profile
costs_sub_profiles = costs_none (costs_u 8 refl) λ n. costs_repeats n (costs_field refl λ v. costs_nothing)

-- the present flag, the max tid and the length of the constraints
costs_profile_tier_level : (present top : ℕ) → Costs 3 (profile_tier_level present top)
unfolding profile_tier_level profile_and_tier
costs_profile_tier_level present top = search (words, costs_general_constraints_info, costs_reversed, costs_sub_profiles) depth 40

costs_ptl_head : (h : Header) (i : ℕ) (heads : List Head) → Costs 0 (ptl_head h i heads)
unfolding ptl_head slot_number_if
costs_ptl_head h i heads = search words depth 20

-- at most 256 slots
costs_ptl_section : (h : Header) (total : ℕ) → Costs (1 + 256 * 3) (ptl_section h total)
unfolding ptl_section ptl_slot
costs_ptl_section h total =
    costs_bind_so {c = 256 * 3} count (costs_test _ (costs_inferred 1) (costs_so (costs_u_minus1 8 refl) (omega arith))) λ n t l.
    costs_none (costs_check _ _) λ c.
    costs_none (costs_turns n 0 [] (costs_ptl_head h)) λ heads.
    costs_none (costs_aligned _) λ z.
    costs_after (256 * 3) refl (costs_loop 256 n 0 tt l (λ i x k. costs_profile_tier_level _ _)) λ s. costs_done
  where
    count : Returns (λ n. n ≤ 256) (test (eqb h.layers 1) (inferred 1) (u_minus1 8))
    count = keeps_test (eqb h.layers 1) (λ e. keeps_so (keeps_inferred 1) (λ n t g. omega (arith, g.1))) (λ e. keeps_so (keeps_u_minus1 8) (λ n t g. g.2))

costs_index : (size count n i : ℕ) → Costs 1 (index size count n i)
unfolding index
costs_index size count n i = search words depth 10

-- the number of sets, and an index of each
costs_ols_section : (ptls total : ℕ) → total ≤ 257 → Costs (1 + 257) (ols_section ptls total)
unfolding ols_section
costs_ols_section ptls total l = costs_one refl (costs_inferred total) λ t. costs_loop 257 total 0 tt l (λ i x k. costs_index ptls total _ i)

-- ── Buffers and timing ────────────────────────────────────────────────
-- a max tid, and at most seven sublayers
costs_per_sublayer : {c : ℕ} (d top n flag : ℕ) {m : Syntax (Unit {0})} → top ≤ 6 → Costs c m → Costs (1 + 7 * c) (per_sublayer d top n flag m)
unfolding per_sublayer
costs_per_sublayer d top n flag l M =
    costs_bind (costs_u_if _ 3 top refl) λ tid.
    costs_checked (leb tid top) n λ o e. costs_repeat 7 _ (few tid (omega (arith, leb-true tid top e)) (eqb flag 0)) M
  where
    few : (tid : ℕ) → tid ≤ 6 → (b : Bool) → cond b 1 (tid + 1) ≤ 7
    few tid l true = omega arith
    few tid l false = omega arith

costs_dpb_sublayer : Costs 0 dpb_sublayer
unfolding dpb_sublayer
costs_dpb_sublayer = search words depth 20

costs_ols_dpb : (slots multi i : ℕ) → Costs 1 (ols_dpb slots multi i)
unfolding ols_dpb
costs_ols_dpb slots multi i = search (words, costs_index) depth 20

-- a max tid of each slot, the number of multi-layer sets, and an index of each
costs_dpb_section : (d top multi : ℕ) → top ≤ 6 → multi ≤ 257 → Costs (257 + 1 + 257) (dpb_section d top multi)
unfolding dpb_section
costs_dpb_section d top multi h l =
    costs_none costs_ue_minus1 λ slots.
    costs_checked (leb slots multi) _ λ c e.
    costs_none (costs_general_if _ 7 1 0) λ flag.
    costs_after 257 refl (costs_repeat 257 slots (omega (arith, leb-true slots multi e)) (costs_per_sublayer d top _ flag h costs_dpb_sublayer)) λ s.
    costs_one refl (costs_inferred multi) λ m.
    costs_after 257 refl (costs_loop 257 multi 0 tt l (λ i x k. costs_ols_dpb slots multi i)) λ o. costs_done

-- seven that may be inferred
costs_general_timing_hrd : Costs 7 general_timing_hrd
unfolding general_timing_hrd
costs_general_timing_hrd = search words depth 40

costs_sublayer_hrd : (h : Hrd) → Costs 0 (sublayer_hrd h)
unfolding sublayer_hrd schedule du_values
costs_sublayer_hrd h = search words depth 30

-- three that may be inferred
costs_timing_sublayer : (h : Hrd) → Costs 3 (timing_sublayer h)
unfolding timing_sublayer
costs_timing_sublayer h = search (words, costs_sublayer_hrd) depth 20

-- the general numbers, the sublayer flag, each entry, and an index of each multi-layer set
costs_timing_section : (d top multi : ℕ) → top ≤ 6 → multi ≤ 257 → Costs (7 + 1 + 257 * 22 + 257) (timing_section d top multi)
unfolding timing_section
costs_timing_section d top multi h l =
    costs_after 7 refl costs_general_timing_hrd λ hrd.
    costs_one refl (costs_u_if _ 1 0 refl) λ flag.
    costs_none costs_ue_minus1 λ entries.
    costs_checked (leb entries multi) _ λ c e.
    costs_after (257 * 22) refl (costs_repeat 257 entries (omega (arith, leb-true entries multi e)) (costs_per_sublayer d top _ flag h (costs_timing_sublayer hrd))) λ s.
    costs_loop 257 multi 0 tt l (λ i x k. costs_index entries multi _ i)

costs_buffer_sections : (h : Header) (each multi : ℕ) → h.max_sublayers_minus1 ≤ 6 → multi ≤ 257 → Costs (516 + 1 + 5919) (buffer_sections h each multi)
unfolding buffer_sections multi_layer_sections single_layer_sections
costs_buffer_sections h each multi k l =
    costs_test (eqb each 0)
    (costs_after 516 refl (costs_mark refl (costs_dpb_section _ _ multi k l)) λ flag.
    costs_one refl (costs_mark refl (costs_u 1 refl)) λ on.
    costs_after 5919 refl (costs_when on (costs_timing_section _ _ multi k l)) λ t. costs_done)
    (costs_mark refl (costs_keep refl (costs_keep refl (costs_mark refl (costs_keep refl costs_done)))))

-- ── What the counts are at most ───────────────────────────────────────
pub header_most : (rules : Rules) → Returns (λ h. (h.layers ≤ 64) × (h.max_sublayers_minus1 ≤ 6)) (header_under rules)
unfolding header_under
header_most rules =
    returns_bind _ λ id.
    keeps_bind (keeps_late (λ v l. keeps_done l)) λ n t (l : n < 2 ^ 6).
    returns_bind _ λ top.
    keeps_bind (keeps_ruled _ _ _ (keeps_check _ _)) λ c u e.
    returns_bind _ λ d. returns_bind _ λ a. keeps_done (omega arith, leb-true top 6 e.1)

rows_most : (n : ℕ) → Returns (λ sets. total_num_olss n sets ≤ 257) (rows_section n)
unfolding rows_section row total_num_olss
rows_most n =
    keeps_bind (keeps_u_minus1 8) λ count t e.
    keeps_bind (keeps_loop (λ i rows t. length rows ≡ i) count 0 [] refl (λ i rows t l g. returns_bind _ λ flags. returns_bind _ λ c. keeps_done (length-append rows (flags ∷ []) ∙ ap (λ (k : ℕ). k + 1) g))) λ rows u g.
    keeps_done (omega (arith, e.2))

pub sets_most : (h : Header) → h.layers ≤ 64 → Returns (λ s. total_num_olss h.layers s.sets ≤ 257) (sets_section h)
unfolding sets_section no_rows total_num_olss
sets_most h l =
    returns_bind _ λ e. returns_bind _ λ m. returns_bind _ λ c.
    keeps_bind (keeps_mark (keeps_test _ (λ b. keeps_test _ (λ b. rows_most h.layers) (λ b. keeps_keep (keeps_done (omega arith)))) (λ b. keeps_keep (keeps_done (omega arith))))) λ s t k.
    keeps_done k

-- ── The whole ─────────────────────────────────────────────────────────
costs_header : (rules : Rules) → Costs 0 (header_under rules)
unfolding header_under
costs_header rules = search words depth 20

-- each section with its mark
costs_vps : (rules : Rules) → Costs 11565 (vps_under rules)
unfolding vps_under num_multi_layer_olss
costs_vps rules =
    costs_bind_so {c = 11565} (header_most rules) (costs_header rules) λ h x e.
    costs_after (1 + 64 * 64) refl (costs_mark refl (costs_layers_section h e.0)) λ l.
    costs_bind_so {c = 7466} (sets_most h e.0) (costs_sets_section h) λ s y k.
    costs_after (2 + 256 * 3) refl (costs_ruled _ _ _ (costs_mark refl (costs_ptl_section h _))) λ ptls.
    costs_after (2 + 257) refl (costs_mark refl (costs_ols_section ptls _ k)) λ o.
    costs_after 6436 refl (costs_buffer_sections h _ _ e.1 (le_trans (count_most _ _) k)) λ flag.
    costs_none (costs_general 8 1) λ f. costs_mark refl costs_done

pub record_by_bits : (rules : Rules) (s r : List ℕ) (n : ℕ) → read_rbsp_under rules s ≡ accepts r n → length r ≤ n + most_uncoded
record_by_bits rules s r n e =
    let P = rbsp_parts rules s r n e in
    let g : List ℕ = P.general in
    let at : ℕ = P.behind in
    let m : ℕ = extension_bits (get_or g 8 0) s at in
    let T = P.ends in
    let i = T.inside in
    let b = T.behind in
    let G = general_read rules s g P.tokens at P.reads in
    omega (arith, ap length P.is, record_numbers g P.tokens (bits_at s at m), G.nine, bits_at_length s at m, (costs_vps rules).holds s 0 P.reads)

pub record_length : (rules : Rules) (u r : List ℕ) (n : ℕ) → read_unit_under rules u ≡ accepts r n → length r ≤ most_record_numbers
record_length rules u r n e =
    let A = unit_accepted rules u r n e in
    let s : List ℕ = unstuff A.payload in
    let P = rbsp_parts rules s r n A.reads in
    omega (arith, A.short, trails_inside s _ n P.ends, record_by_bits rules s r n A.reads)
