-- Timing and HRD parameters of H.266 clauses 7.3.5.1 to 7.3.5.3, and their section of the VPS.
use Rattle.std.specs.Prelude.{ℕ, ◌+◌, Bool, ◌&&◌, ◌||◌, ltb, leb, eqb}
use Rattle.refusals.specs.Number.{timing_zero, schedule_count, timing_entries, timing_max_tid, elemental_duration, timing_index}
use Rattle.vps_definition.specs.Syntax.{Syntax, ◌>>=◌}
use Rattle.vps_definition.specs.Syntax.Syntax.{done}
use Rattle.vps_definition.specs.Words.{u, ue, ue_minus1, u_if, ue_if, check, nothing, when, loop, repeat}
use Rattle.vps_definition.specs.DpbParameters.{per_sublayer, index}

-- what the schedules go by
pub record Hrd : Type 0 where
  pub nal : ℕ
  pub vcl : ℕ
  pub du : ℕ
  pub cpb_cnt_minus1 : ℕ

abbrev pub hrd_present : (nal vcl : ℕ) → Bool
hrd_present nal vcl = eqb nal 1 || eqb vcl 1

-- general_timing_hrd_parameters()
unfoldable pub general_timing_hrd : Syntax Hrd
general_timing_hrd = do
  num_units_in_tick ← u 32
  time_scale ← u 32
  general_nal_hrd_params_present_flag ← u 1
  general_vcl_hrd_params_present_flag ← u 1
  c21 ← check (ltb 0 num_units_in_tick && ltb 0 time_scale) timing_zero
  general_same_pic_timing_in_all_ols_flag ← u_if (hrd_present general_nal_hrd_params_present_flag general_vcl_hrd_params_present_flag) 1 0
  general_du_hrd_params_present_flag ← u_if (hrd_present general_nal_hrd_params_present_flag general_vcl_hrd_params_present_flag) 1 0
  tick_divisor_minus2 ← u_if (eqb general_du_hrd_params_present_flag 1) 8 0
  bit_rate_scale ← u_if (hrd_present general_nal_hrd_params_present_flag general_vcl_hrd_params_present_flag) 4 0
  cpb_size_scale ← u_if (hrd_present general_nal_hrd_params_present_flag general_vcl_hrd_params_present_flag) 4 0
  cpb_size_du_scale ← u_if (eqb general_du_hrd_params_present_flag 1) 4 0
  hrd_cpb_cnt_minus1 ← ue_if (hrd_present general_nal_hrd_params_present_flag general_vcl_hrd_params_present_flag) 0
  c22 ← check (leb hrd_cpb_cnt_minus1 31) schedule_count
  done (record {
    nal = general_nal_hrd_params_present_flag;
    vcl = general_vcl_hrd_params_present_flag;
    du = general_du_hrd_params_present_flag;
    cpb_cnt_minus1 = hrd_cpb_cnt_minus1;
  })

-- sublayer_hrd_parameters(): a schedule, and all of them
unfoldable pub du_values : Syntax (Unit {0})
du_values = do
  cpb_size_du_value_minus1 ← ue
  bit_rate_du_value_minus1 ← ue
  nothing

unfoldable pub schedule : (du : ℕ) → Syntax (Unit {0})
schedule du = do
  bit_rate_value_minus1 ← ue
  cpb_size_value_minus1 ← ue
  d ← when du du_values
  cbr_flag ← u 1
  nothing

unfoldable pub sublayer_hrd : Hrd → Syntax (Unit {0})
sublayer_hrd h = repeat (h.cpb_cnt_minus1 + 1) (schedule h.du)

-- ols_timing_hrd_parameters(): one sublayer
unfoldable pub timing_sublayer : Hrd → Syntax (Unit {0})
timing_sublayer h = do
  fixed_pic_rate_general_flag ← u 1
  fixed_pic_rate_within_cvs_flag ← u_if (eqb fixed_pic_rate_general_flag 0) 1 1
  elemental_duration_in_tc_minus1 ← ue_if (eqb fixed_pic_rate_within_cvs_flag 1) 0
  c25 ← check (leb elemental_duration_in_tc_minus1 2047) elemental_duration
  low_delay_hrd_flag ← u_if (eqb fixed_pic_rate_within_cvs_flag 0 && hrd_present h.nal h.vcl && eqb h.cpb_cnt_minus1 0) 1 0
  n ← when h.nal (sublayer_hrd h)
  when h.vcl (sublayer_hrd h)

-- the timing section behind its flag
unfoldable pub timing_section : (default_max_tid_flag max_sublayers_minus1 multi : ℕ) → Syntax (Unit {0})
timing_section default_max_tid_flag max_sublayers_minus1 multi = do
  hrd ← general_timing_hrd
  vps_sublayer_cpb_params_present_flag ← u_if (ltb 0 max_sublayers_minus1) 1 0
  entries ← ue_minus1
  c23 ← check (leb entries multi) timing_entries
  e ← repeat entries (per_sublayer default_max_tid_flag max_sublayers_minus1 timing_max_tid vps_sublayer_cpb_params_present_flag (timing_sublayer hrd))
  loop (λ i x. index entries multi timing_index i) multi 0 tt
