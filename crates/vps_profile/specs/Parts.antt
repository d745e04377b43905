-- profile_tier_level() in parts, each from one of its fields to its end.
use Rattle.std.specs.Prelude.{ℕ}
use Rattle.vps_definition.specs.Syntax.{Syntax, ◌>>=◌}
use Rattle.vps_definition.specs.Words.{sum, u, when, aligned}
use Rattle.vps_definition.specs.ProfileTierLevel.{reversed, general_constraints_info, sub_profiles}

-- from ptl_sublayer_level_present_flag on
unfoldable pub from_sublayers : (vps_pt_present_flag vps_ptl_max_tid : ℕ) → Syntax (Unit {0})
from_sublayers vps_pt_present_flag vps_ptl_max_tid = do
  ptl_sublayer_level_present_flags ← reversed vps_ptl_max_tid 1
  z ← aligned 0
  sublayer_level_idcs ← reversed (sum ptl_sublayer_level_present_flags) 8
  when vps_pt_present_flag sub_profiles

-- from general_level_idc on
unfoldable pub from_level : (vps_pt_present_flag vps_ptl_max_tid : ℕ) → Syntax (Unit {0})
from_level vps_pt_present_flag vps_ptl_max_tid = do
  general_level_idc ← u 8
  ptl_frame_only_constraint_flag ← u 1
  ptl_multilayer_enabled_flag ← u 1
  c ← when vps_pt_present_flag general_constraints_info
  from_sublayers vps_pt_present_flag vps_ptl_max_tid
