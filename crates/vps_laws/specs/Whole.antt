-- The whole table is coherent with a record that begins with its General section.
use Rattle.std.specs.Prelude.{ℕ, ◌<◌, ◌≡◌, List, get_or}
use Rattle.vps_definition.specs.Vps.{Header, SetsRead}

-- the record begins with the General section
pub record Begun (r general : List ℕ) : Type 0 where
  pub at : (i : ℕ) → i < 9 → get_or r i 0 ≡ get_or general i 0

-- the header's numbers stand in it
pub record HeaderAt (r : List ℕ) (h : Header) : Type 0 where
  pub layers : get_or r 0 0 ≡ h.layers
  pub id : get_or r 1 0 ≡ h.id
  pub top : get_or r 2 0 ≡ h.max_sublayers_minus1
  pub default : get_or r 3 0 ≡ h.default_max_tid_flag
  pub all : get_or r 4 0 ≡ h.all_independent_flag

pub record SetsAt (r : List ℕ) (s : SetsRead) : Type 0 where
  pub each : get_or r 5 0 ≡ s.each_layer_flag
  pub mode : get_or r 6 0 ≡ s.mode_idc
