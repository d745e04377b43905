-- The rules of the table that are in force or not. A rule of before and one of today are two values of the same record, so that
-- the table, its readings and their laws are one text for both.
use Rattle.std.specs.Prelude.{Bool, true, false}

pub record Rules : Type 0 where
  -- vps_video_parameter_set_id 0 is refused
  pub id_zero_refused : Bool
  -- where not each layer is a set, and no set has several layers, the unit is refused before the PTLs
  pub early_slots : Bool

-- the rules in force
abbrev pub today : Rules
today = record { id_zero_refused = true; early_slots = false }

-- the same rules with one of them in force, and without it
abbrev pub refusing_id : Rules → Rules
refusing_id rules = record { id_zero_refused = true; early_slots = rules.early_slots }

abbrev pub taking_id : Rules → Rules
taking_id rules = record { id_zero_refused = false; early_slots = rules.early_slots }

abbrev pub early : Rules → Rules
early rules = record { id_zero_refused = rules.id_zero_refused; early_slots = true }
