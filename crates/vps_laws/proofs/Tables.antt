-- Coherence of the VPS's own tables: each number that is coded before its place in the record stands where it is looked for.
use Rattle.std.specs.Prelude.{ℕ, zero, suc, ◌+◌, ◌-◌, ◌≡◌, refl, length, get_or}
use Rattle.std.proofs.Common.{sym, ◌∙◌, arith, length-append}
use Rattle.std.proofs.Math.Path.{ap}
use mathlib.Core.List.{List, [], ◌∷◌, ◌++◌}
use Rattle.vps_definition.specs.Syntax.{Syntax, ◌>>=◌, Token, numbers}
use Rattle.vps_definition.specs.Syntax.Syntax.{done}
use Rattle.vps_definition.specs.Syntax.Token.{number}
use Rattle.vps_definition.specs.Words.{inferred, keeps}
use Rattle.vps_definition.specs.OutputLayerSets.{Sets}
use Rattle.vps_definition.specs.ProfileTierLevel.{falling, reversed, ahead, constraint_bit, constraints, constraints_if, general_constraints_info, profile_and_tier, sub_profile, sub_profiles, profile_tier_level}
use Rattle.vps_definition.specs.DpbParameters.{dpb_sublayer, per_sublayer, index, ols_dpb}
use Rattle.vps_definition.specs.TimingHrd.{Hrd, general_timing_hrd, du_values, schedule, sublayer_hrd, timing_sublayer, timing_section}
use Rattle.vps_definition.specs.Vps.{Header, Layers, direct_reference, dependent_layer, independent_layer, layer, layers_section, output_flag, row, rows_section, no_rows, ols_section}
use Rattle.vps_laws.specs.Keeps.{Keeps, Returns, numbers_append, keeps_so, keeps_late, keeps_done, keeps_inferred}
use Rattle.vps_laws.proofs.Keeps.{keeps_bind, returns_bind}
use Rattle.vps_laws.specs.Coherence.{Local, local_done, Ahead, ahead_late, ahead_done, Begins}
use Rattle.vps_laws.proofs.Coherence.{words, local_bind, local_keeps, ahead_bind, coh_ahead, keeps_begins}
use Rattle.vps_laws.specs.Tables.{Front, begins_last, After, after_first}

-- ── Layers and rows ───────────────────────────────────────────────────
pub local_direct_reference : (present top j : ℕ) (flags : List ℕ) → Local (direct_reference present top j flags)
unfolding direct_reference
local_direct_reference present top j flags = search words depth 20

pub local_dependent_layer : (top i : ℕ) → Local (dependent_layer top i)
unfolding dependent_layer
local_dependent_layer top i = search (words, local_direct_reference) depth 20

pub local_independent_layer : Local independent_layer
unfolding independent_layer
local_independent_layer = search words depth 20

pub local_layer : (h : Header) (i : ℕ) (x : Layers) → Local (layer h i x)
unfolding layer
local_layer h i x = search (words, local_dependent_layer, local_independent_layer) depth 20

pub local_layers_section : (h : Header) → Local (layers_section h)
unfolding layers_section
local_layers_section h = search (words, local_layer)

pub local_output_flag : (j : ℕ) (flags : List ℕ) → Local (output_flag j flags)
unfolding output_flag
local_output_flag j flags = search words

pub local_row : (n i : ℕ) (rows : List (List ℕ)) → Local (row n i rows)
unfolding row
local_row n i rows = search (words, local_output_flag) depth 20

pub local_rows_section : (n : ℕ) → Local (rows_section n)
unfolding rows_section
local_rows_section n = search (words, local_row) depth 20

pub local_no_rows : (sets : Sets) → Local (no_rows sets)
unfolding no_rows
local_no_rows sets = search words

-- ── Buffers and timing ────────────────────────────────────────────────
pub local_dpb_sublayer : Local dpb_sublayer
unfolding dpb_sublayer
local_dpb_sublayer = search words depth 20

pub local_per_sublayer : (d top n flag : ℕ) {m : Syntax (Unit {0})} → Local m → Local (per_sublayer d top n flag m)
unfolding per_sublayer
local_per_sublayer d top n flag M = search words depth 20

pub local_index : (size count n i : ℕ) → Local (index size count n i)
unfolding index
local_index size count n i = search words depth 20

pub local_ols_dpb : (slots multi i : ℕ) → Local (ols_dpb slots multi i)
unfolding ols_dpb
local_ols_dpb slots multi i = search (words, local_index) depth 20

pub local_ols_section : (ptls total : ℕ) → Local (ols_section ptls total)
unfolding ols_section
local_ols_section ptls total = search (words, local_index) depth 20

pub local_general_timing_hrd : Local general_timing_hrd
unfolding general_timing_hrd
local_general_timing_hrd = search words depth 40

pub local_du_values : Local du_values
unfolding du_values
local_du_values = search words depth 20

pub local_schedule : (du : ℕ) → Local (schedule du)
unfolding schedule
local_schedule du = search (words, local_du_values) depth 20

pub local_sublayer_hrd : (h : Hrd) → Local (sublayer_hrd h)
unfolding sublayer_hrd
local_sublayer_hrd h = search (words, local_schedule)

pub local_timing_sublayer : (h : Hrd) → Local (timing_sublayer h)
unfolding timing_sublayer
local_timing_sublayer h = search (words, local_sublayer_hrd) depth 20

pub local_timing_section : (d top multi : ℕ) → Local (timing_section d top multi)
unfolding timing_section
local_timing_section d top multi = search (words, local_general_timing_hrd, local_per_sublayer, local_timing_sublayer, local_index) depth 20

falling_length : (n w : ℕ) → Returns (λ l. length l ≡ n) (falling n w)
unfolding falling
falling_length zero w = keeps_done refl
falling_length (suc n) w = keeps_late (λ v h. keeps_bind (falling_length n w) (λ l t e. keeps_done (length-append l (v ∷ []) ∙ ap (λ (k : ℕ). k + 1) e ∙ omega arith)))

ahead_falling : (n w : ℕ) → Ahead Front (falling n w)
unfolding falling
ahead_falling zero w = ahead_done
ahead_falling (suc n) w =
    ahead_late
    (λ v. keeps_bind (falling_length n w) (λ l t e. keeps_done (λ r x b. ap (λ (k : ℕ). get_or x k 0) (sym e) ∙ (begins_last l x v b).1)))
    (λ v. ahead_bind Front (ahead_falling n w) (λ l. keeps_done (λ r x b. (begins_last l x v b).0)) (λ l. ahead_done))

pub local_reversed : (n w : ℕ) → Local (reversed n w)
unfolding reversed
local_reversed n w =
    coh_ahead (ahead_falling n w)
    (λ l. keeps_so (keeps_begins l (λ t. done l)) (λ b t h r y. h y))
    (λ l. local_bind (local_keeps l) (λ t. local_done))

ahead_ahead : (n i : ℕ) → Ahead (After i) (ahead n i)
unfolding ahead
ahead_ahead zero i = ahead_done
ahead_ahead (suc n) i =
    ahead_late
    (λ v. returns_bind (ahead n (i + 1)) (λ l. keeps_done (λ r x a. (after_first i v r x l a).1)))
    (λ v. ahead_bind (After (i + 1)) (ahead_ahead n (i + 1)) (λ l. keeps_done (λ r x a. (after_first i v r x l a).0)) (λ l. ahead_done))

pub local_constraint_bit : Local constraint_bit
unfolding constraint_bit
local_constraint_bit = search words

-- the length stands before the bits that give it
one_before : (v : ℕ) (l : List ℕ) (f : ℕ → Unit {0} → Syntax (Unit {0})) → Keeps (λ b t. (r y : List ℕ) → After 1 r (numbers t ++ y) l) (inferred v >>= λ n. keeps l >>= f n)
unfolding numbers
one_before v l f = keeps_bind (keeps_inferred v) (λ n x h. keeps_so (keeps_begins l (f n)) (λ b t B r y. behind n x t r y h.0 (B y)))
  where
    behind : (n : ℕ) (x t : List Token) (r y : List ℕ) → x ≡ number n ∷ [] → Begins l (numbers t ++ y) → After 1 r (numbers (x ++ t) ++ y) l
    behind n x t r y e B =
        record {
          first = n ∷ [];
          many = refl;
          rest = B.rest;
          is = ap (λ (z : List ℕ). z ++ y) (numbers_append x t ∙ ap (λ (z : List Token). numbers z ++ numbers t) e ∙ (unfold numbers in refl)) ∙ ap (λ (z : List ℕ). n ∷ z) B.is;
        }

pub local_constraints : Local constraints
unfolding constraints
local_constraints =
    coh_ahead (ahead_ahead 77 1) (λ l. one_before _ l _)
    (λ l. search (words, local_constraint_bit) depth 20)

pub local_constraints_if : (flag : ℕ) → Local (constraints_if flag)
unfolding constraints_if
local_constraints_if flag = search (words, local_constraints)

pub local_general_constraints_info : Local general_constraints_info
unfolding general_constraints_info
local_general_constraints_info = search (words, local_constraints_if) depth 20

-- ── A slot ────────────────────────────────────────────────────────────
pub local_profile_and_tier : Local profile_and_tier
unfolding profile_and_tier
local_profile_and_tier = search words depth 20

pub local_sub_profile : Local sub_profile
unfolding sub_profile
local_sub_profile = search words

pub local_sub_profiles : Local sub_profiles
unfolding sub_profiles
local_sub_profiles = search (words, local_sub_profile) depth 20

pub local_profile_tier_level : (present top : ℕ) → Local (profile_tier_level present top)
unfolding profile_tier_level
local_profile_tier_level present top = search (words, local_profile_and_tier, local_general_constraints_info, local_reversed, local_sub_profiles) depth 30
