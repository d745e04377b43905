-- Tables without marks: only the VPS's own sections start one.
use Rattle.std.specs.Prelude.{ℕ, zero, suc, ◌+◌, List, Bool}
use Rattle.std.proofs.Common.{◌∙◌, arith}
use Rattle.vps_definition.specs.Rules.{Rules}
use Rattle.vps_definition.specs.Syntax.{Syntax, ◌>>=◌}
use Rattle.vps_definition.specs.Words.{u, u_minus1, ue, ue_minus1, inferred, u_if, ue_if, general, general_if, check, nothing, when, aligned, loop, repeat}
use Rattle.vps_definition.specs.ProfileTierLevel.{falling, reversed, ahead, constraint_bit, constraints, constraints_if, general_constraints_info, profile_and_tier, sub_profile, sub_profiles, profile_tier_level}
use Rattle.vps_definition.specs.DpbParameters.{dpb_sublayer, per_sublayer, index, ols_dpb, dpb_section}
use Rattle.vps_definition.specs.TimingHrd.{Hrd, general_timing_hrd, du_values, schedule, sublayer_hrd, timing_sublayer, timing_section}
use Rattle.vps_definition.specs.OutputLayerSets.{Sets}
use Rattle.vps_definition.specs.Vps.{Header, header_under, direct_reference, dependent_layer, independent_layer, layer, layers_section, output_flag, row, rows_section, no_rows, slot_number_if, ptl_head, ptl_slot, ptl_section, ols_section}
use Rattle.vps_laws.specs.Keeps.{keeps_so}
use Rattle.vps_laws.proofs.Keeps.{keeps_bind}
use Rattle.vps_laws.specs.Marks.{marks_append}
use Rattle.vps_laws.specs.Plain.{Plain, plain_done, plain_refuse, plain_field, plain_code, plain_late, plain_keep, plain_align, plain_test, plain_keeps, plain_ruled}

pub plain_bind : {A B : Type 0} {m : Syntax A} {f : A → Syntax B} → Plain m → ((a : A) → Plain (f a)) → Plain (m >>= f)
plain_bind M F = record { plain = keeps_bind M.plain (λ a x h. keeps_so (F a).plain (λ b y k. marks_append x y ∙ omega arith)) }

plain_loop : {A : Type 0} {f : ℕ → A → Syntax A} (n i : ℕ) (x : A) → ((i : ℕ) (x : A) → Plain (f i x)) → Plain (loop f n i x)
unfolding loop
plain_loop zero i x F = plain_done
plain_loop (suc n) i x F = plain_bind (F i x) (λ y. plain_loop n (i + 1) y F)

plain_repeat : (n : ℕ) {m : Syntax (Unit {0})} → Plain m → Plain (repeat n m)
unfolding repeat
plain_repeat n M = plain_loop n 0 tt (λ i x. M)

ruleset steps = (plain_bind, plain_field, plain_code, plain_late, plain_keep, plain_align, plain_test, plain_loop, plain_repeat, plain_keeps, plain_done, plain_refuse)

pub plain_u : (w : ℕ) → Plain (u w)
unfolding u
plain_u w = search steps

pub plain_inferred : (v : ℕ) → Plain (inferred v)
unfolding inferred
plain_inferred v = search steps

pub plain_when : (flag : ℕ) {m : Syntax (Unit {0})} → Plain m → Plain (when flag m)
unfolding when nothing
plain_when flag M = search steps

pub plain_check : (b : Bool) (n : ℕ) → Plain (check b n)
unfolding check
plain_check b n = search steps

pub plain_general : (i w : ℕ) → Plain (general i w)
unfolding general
plain_general i w = search steps

pub plain_general_if : (b : Bool) (i w v : ℕ) → Plain (general_if b i w v)
unfolding general_if general
plain_general_if b i w v = search steps

-- ── The tables ────────────────────────────────────────────────────────
pub plain_header : (rules : Rules) → Plain (header_under rules)
unfolding header_under
plain_header rules = search (steps, plain_general, plain_check, plain_ruled, plain_general_if) depth 40

plain_direct_reference : (present top j : ℕ) (flags : List ℕ) → Plain (direct_reference present top j flags)
unfolding direct_reference u u_if inferred
plain_direct_reference present top j flags = search steps depth 30

plain_layer : (h : Header) (i : ℕ) (x : _) → Plain (layer h i x)
unfolding layer dependent_layer independent_layer u u_if inferred check
plain_layer h i x = search (steps, plain_direct_reference) depth 40

pub plain_layers_section : (h : Header) → Plain (layers_section h)
unfolding layers_section
plain_layers_section h = search (steps, plain_layer)

plain_row : (n i : ℕ) (rows : List (List ℕ)) → Plain (row n i rows)
unfolding row output_flag u check
plain_row n i rows = search steps depth 40

pub plain_rows_section : (n : ℕ) → Plain (rows_section n)
unfolding rows_section u_minus1
plain_rows_section n = search (steps, plain_row) depth 20

pub plain_no_rows : (sets : Sets) → Plain (no_rows sets)
unfolding no_rows
plain_no_rows sets = search steps

plain_falling : (n w : ℕ) → Plain (falling n w)
unfolding falling
plain_falling zero w = plain_done
plain_falling (suc n) w = plain_late (λ v. plain_bind (plain_falling n w) (λ l. plain_done))

plain_ahead : (n i : ℕ) → Plain (ahead n i)
unfolding ahead
plain_ahead zero i = plain_done
plain_ahead (suc n) i = plain_late (λ v. plain_bind (plain_ahead n (i + 1)) (λ l. plain_done))

plain_constraints : Plain general_constraints_info
unfolding general_constraints_info constraints_if constraints constraint_bit u inferred nothing aligned
plain_constraints = search (steps, plain_ahead) depth 40

plain_profile_tier_level : (present top : ℕ) → Plain (profile_tier_level present top)
unfolding profile_tier_level profile_and_tier sub_profiles sub_profile reversed u inferred nothing when aligned
plain_profile_tier_level present top = search (steps, plain_falling, plain_constraints) depth 60

plain_ptl_head : (h : Header) (i : ℕ) (heads : _) → Plain (ptl_head h i heads)
unfolding ptl_head slot_number_if check
plain_ptl_head h i heads = search steps depth 40

pub plain_ptl_section : (h : Header) (total : ℕ) → Plain (ptl_section h total)
unfolding ptl_section ptl_slot inferred u_minus1 check aligned nothing
plain_ptl_section h total = search (steps, plain_ptl_head, plain_profile_tier_level) depth 40

plain_index : (size count n i : ℕ) → Plain (index size count n i)
unfolding index ue_if ue inferred check
plain_index size count n i = search steps depth 20

pub plain_ols_section : (ptls total : ℕ) → Plain (ols_section ptls total)
unfolding ols_section inferred
plain_ols_section ptls total = search (steps, plain_index) depth 20

plain_per_sublayer : (d top n flag : ℕ) {m : Syntax (Unit {0})} → Plain m → Plain (per_sublayer d top n flag m)
unfolding per_sublayer u_if u inferred check
plain_per_sublayer d top n flag M = search steps depth 30

plain_dpb_sublayer : Plain dpb_sublayer
unfolding dpb_sublayer ue check nothing
plain_dpb_sublayer = search steps depth 40

plain_ols_dpb : (slots multi i : ℕ) → Plain (ols_dpb slots multi i)
unfolding ols_dpb ue u check
plain_ols_dpb slots multi i = search (steps, plain_index) depth 40

pub plain_dpb_section : (d top multi : ℕ) → Plain (dpb_section d top multi)
unfolding dpb_section ue_minus1 check general_if general inferred
plain_dpb_section d top multi = search (steps, plain_per_sublayer, plain_dpb_sublayer, plain_ols_dpb) depth 40

plain_schedule : (du : ℕ) → Plain (schedule du)
unfolding schedule du_values ue u when nothing
plain_schedule du = search steps depth 40

plain_timing_sublayer : (h : Hrd) → Plain (timing_sublayer h)
unfolding timing_sublayer sublayer_hrd u u_if ue_if ue inferred check when nothing
plain_timing_sublayer h = search (steps, plain_schedule) depth 40

plain_general_timing_hrd : Plain general_timing_hrd
unfolding general_timing_hrd u u_if ue_if ue inferred check
plain_general_timing_hrd = search steps depth 80

pub plain_timing_section : (d top multi : ℕ) → Plain (timing_section d top multi)
unfolding timing_section u_if u inferred ue_minus1 check
plain_timing_section d top multi = search (steps, plain_general_timing_hrd, plain_per_sublayer, plain_timing_sublayer, plain_index) depth 40
