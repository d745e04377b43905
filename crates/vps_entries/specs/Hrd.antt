-- The second half of general_timing_hrd_parameters(), and what the code hands on of it.
use Rattle.std.specs.Prelude.{ℕ, ◌≡◌, Bool, leb, eqb}
use Rattle.refusals.specs.Number.{schedule_count}
use Rattle.vps_definition.specs.Syntax.{Syntax, ◌>>=◌}
use Rattle.vps_definition.specs.Syntax.Syntax.{done}
use Rattle.vps_definition.specs.Words.{u_if, ue_if, check}
use Rattle.vps_definition.specs.TimingHrd.{Hrd}
use Rattle.vps_entries.specs.declared.Hrd as Code

-- the definition's record of the code's four numbers
abbrev pub hrd_of : Code.Hrd → Hrd
hrd_of h = record { nal = h.nal; vcl = h.vcl; du = h.du; cpb_cnt_minus1 = h.cpb_cnt_minus1 }

abbrev pub IsHrd : Code.Hrd → Hrd → Type 0
IsHrd h x = x ≡ hrd_of h

-- general_timing_hrd_parameters() behind its check of the units
unfoldable pub hrd_scales : (present : Bool) (nal vcl : ℕ) → Syntax Hrd
hrd_scales present nal vcl = do
  general_same_pic_timing_in_all_ols_flag ← u_if present 1 0
  general_du_hrd_params_present_flag ← u_if present 1 0
  tick_divisor_minus2 ← u_if (eqb general_du_hrd_params_present_flag 1) 8 0
  bit_rate_scale ← u_if present 4 0
  cpb_size_scale ← u_if present 4 0
  cpb_size_du_scale ← u_if (eqb general_du_hrd_params_present_flag 1) 4 0
  hrd_cpb_cnt_minus1 ← ue_if present 0
  c22 ← check (leb hrd_cpb_cnt_minus1 31) schedule_count
  done (record { nal = nal; vcl = vcl; du = general_du_hrd_params_present_flag; cpb_cnt_minus1 = hrd_cpb_cnt_minus1 })
